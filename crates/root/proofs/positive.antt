-- The laws of the shift by leading zeros.
mod Scale

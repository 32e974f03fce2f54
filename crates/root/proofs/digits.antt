-- The laws of the digits, which only their own proof names.
mod Turns

-- Worked cases: the output of the whole case of document 01, and a refusal. Assumes nothing.
use Rattle.std.specs.Prelude.{◌≡◌, refl, [], ◌∷◌}
use Rattle.std.specs.Float.{binary64}
use Rattle.std.specs.Float.Ieee.{to_bits, of_bits}
use Rattle.little.specs.Little.{bytes}
use Rattle.job_answer.specs.Lines.{bytes_of, text, rows, lines}

whole-output : text (lines 0 0 (of_bits binary64 0x3FE0_0000_0000_0000 ∷ [])) ≡ 0x58 ∷ 0x56 ∷ 0 ∷ 0 ∷ 0 ∷ 0 ∷ 0 ∷ 0 ∷ 0 ∷ 0 ∷ 0 ∷ 0 ∷ 0xE0 ∷ 0x3F ∷ []
unfolding text lines rows bytes_of bytes to_bits of_bits
whole-output = refl

refusal : text (lines 11 258 []) ≡ 0x4E ∷ 0x4F ∷ 11 ∷ 2 ∷ 1 ∷ 0 ∷ 0 ∷ []
unfolding text lines bytes_of bytes
refusal = refl

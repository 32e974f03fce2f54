-- The roots of examples E7 and E12 of the scope document: each pattern, and the bits of its root. Assumes nothing.
use Rattle.std.specs.Prelude.{ℕ, List, [], ◌∷◌}

pub record Case : Type 0 where
  pub of : ℕ
  pub says : ℕ

abbrev pub cases : List Case
cases =
    record { of = 0x4000_0000_0000_0000; says = 0x3FF6_A09E_667F_3BCD }
    ∷ record { of = 0x0000_0000_0000_0001; says = 0x1E60_0000_0000_0000 }
    ∷ record { of = 0x400F_FFFF_FFFF_FFFF; says = 0x3FFF_FFFF_FFFF_FFFF }
    ∷ []

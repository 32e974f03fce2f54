-- Slices of which no more than the first n places have changed. Assumes nothing.
use Rattle.std.proofs.Common.{◌≡◌, ℕ, ◌+◌, ◌-◌, ◌≤◌, List, ◌++◌, length, drop, refl, ◌∙◌, arith, length-append, length-drop, get_or-drop}
use Rattle.std.proofs.Common.{get_or-append-add}
use Rattle.lists.specs.Calls.{onto, cleared}
use Rattle.lists.specs.Keeping.{Kept}
use Rattle.lists.specs.Parts.{placed}
use Rattle.lists.proofs.Clearing.{length-cleared, cleared-rest, cleared-same}
use Rattle.lists.proofs.Laying.{placed-front}
use Rattle.lists.proofs.Parts.{length-onto, get_or-onto-rest}

module _ {A : Type 0} {z : A} where
  pub kept-all : (n : ℕ) (w : List A) → Kept z n w w
  kept-all n w = record { long = refl; rest = λ q l. refl }

  pub kept_then : {n : ℕ} {a b c : List A} → Kept z n a b → Kept z n b c → Kept z n a c
  kept_then f g = record { long = g.long ∙ f.long; rest = λ q l. g.rest q l ∙ f.rest q l }

  pub kept-wider : {n : ℕ} (m : ℕ) {a b : List A} → n ≤ m → Kept z n a b → Kept z m a b
  kept-wider m h f = record { long = f.long; rest = λ q l. f.rest q (omega arith) }

  pub kept-cleared : (n : ℕ) {w v : List A} → v ≡ cleared z n w → Kept z n w v
  kept-cleared n {w = w} e = rw e (record { long = length-cleared z n w; rest = λ q l. cleared-rest z n w q l })

  -- what was written to the front, and a front that came back
  pub kept-onto : (n : ℕ) (d g : List A) → length g ≤ n → length g ≤ length d → Kept z n d (onto d g)
  kept-onto n d g h l = record { long = length-onto d g l; rest = λ q m. get_or-onto-rest d g z q (omega arith) }

  pub kept_back : (n : ℕ) (ys l : List A) → n ≤ length l → length ys ≡ n → Kept z n l (ys ++ drop n l)
  kept_back n ys l h e =
      record {
        long = omega (arith, length-append ys (drop n l), length-drop n l);
        rest =
            λ q m.
            let f : length ys + (q - n) ≡ q = omega arith in
            let g : n + (q - n) ≡ q = omega arith in
            (rw f at (get_or-append-add ys (drop n l) (q - n) z)) ∙ (rw g at (get_or-drop n l (q - n) z));
      }

  pub kept-placed : (n : ℕ) (d ys : List A) → length ys ≡ n → n ≤ length d → Kept z n d (placed 0 n d ys)
  kept-placed n d ys e h = rw (placed-front d ys n e) (kept-onto n d ys (omega arith) (omega arith))

  -- what is cleared afterwards is what would have been cleared before
  pub kept_clears : {n : ℕ} {a b : List A} → Kept z n a b → cleared z n b ≡ cleared z n a
  kept_clears {n = n} {a = a} {b = b} v = cleared-same z n b a v.long v.rest

-- `find` over the columns, rising for the first that lacks its diagonal and falling for the last. Assumes nothing.
use Rattle.std.proofs.Common.{◌≡◌, ℕ, zero, suc, ◌+◌, ◌-◌, ◌<◌, Bool, true, false, List, [], ◌∷◌, Option, refl, sym, ◌∙◌, arith, subst}
use Rattle.std.specs.Option.{MatchOption, option_map}
use Rattle.std.specs.List.{find, range_with_len}
use Rattle.std.specs.Iterator.Adapters.{rev_source, rev_steps}
use Rattle.std.specs.declared.iter.Rev.{Rev}
use Rattle.std.specs.declared.ops.Range.{Range}
use Rattle.std.proofs.lemmas.Iterator.{YieldsList}
use Rattle.std.proofs.lemmas.Iterator.Adapters.{option_map_id}
use Rattle.std.proofs.lemmas.Iterator.Consumers.{YieldsList-from_shown}
use Rattle.lists.specs.Choices.{chosen, first_or, last_or}
use Rattle.lists.proofs.Choices.{Upward, upward_start, upward_turn, upward_found, upward_end}
use Rattle.lists.proofs.Choices.{Downward, downward_start, downward_turn, downward_found, downward_end}
use Rattle.cs_solve.specs.Judge.{Names}

-- a step of a range from its end
abbrev steps_back : Range ℕ → Option ℕ → Range ℕ → Type 0
steps_back s r t = (t.start ≡ s.start) × MatchOption r ((s.end - s.start ≡ 0) × (t.end ≡ s.end))
    (λ x. (0 < s.end - s.start) × (x ≡ t.end) × (s.end ≡ t.end + 1))

-- the numbers that a range gives from its end, m of them from a on
abbrev pub downs : ℕ → ℕ → List ℕ
downs a zero = []
downs a (suc m) = (a + m) ∷ downs a m

abbrev left : Rev (Range ℕ) → List ℕ
left s = downs (rev_source s).start ((rev_source s).end - (rev_source s).start)

all_left : (s : Rev (Range ℕ)) → YieldsList (rev_steps steps_back) (λ x. x) s (left s)
all_left = YieldsList-from_shown (rev_steps steps_back) (λ x. x) left
    (λ s t p. rw p.1.0)
    (λ s x t p.
    let a = rev_source s in
    let b = rev_source t in
    let e : a.end - a.start ≡ suc (b.end - a.start) = omega (arith, p.1.0, p.1.2) in
    let f : a.start + (b.end - a.start) ≡ x = omega (arith, p.1.0, p.1.1, p.1.2) in
    rw (e, p.0, f))

pub downward : {s : Rev (Range ℕ)} (n : ℕ) → rev_source s ≡ record { start = 0; end = n } → YieldsList (rev_steps steps_back) (λ x. x) s (downs 0 n)
downward {s} n e =
    let w = subst (λ (u : Range ℕ). YieldsList (rev_steps steps_back) (λ x. x) s (downs u.start (u.end - u.start))) e (all_left s) in
    let z : n - 0 ≡ n = omega arith in
    rw z at w

module _ (n : ℕ) (f : ℕ → Bool) where
  abbrev First : Option ℕ → Type 0
  First r = Names n (chosen n f) (first_or 0 (chosen n f)) r

  abbrev Last : Option ℕ → Type 0
  Last r = Names n (chosen n f) (last_or 0 (chosen n f)) r

  rising : (d j : ℕ) → Upward n f j → j + d ≡ n → First (find f (range_with_len j d))
  rising zero j u e = (upward_end u (omega arith)).none (omega arith)
  rising (suc d) j u e = by (f j) refl (λ v. rising d (j + 1) v (omega arith))
    where
      by : (b : Bool) → f j ≡ b → (Upward n f (j + 1) → First (find f (range_with_len (j + 1) d))) → First (find f (range_with_len j (suc d)))
      by true h more = let r = (upward_found u (omega arith) h).found (omega arith) in rw h (r.0, r.1, omega arith)
      by false h more = rw h (more (upward_turn u (omega arith) h))

  falling : (m : ℕ) → Downward n f m → Last (find f (downs 0 m))
  falling zero u = (downward_end u refl).none (omega arith)
  falling (suc m) u = by (f m) refl (falling m)
    where
      z : 0 + m ≡ m
      z = omega arith

      k : suc m - 1 ≡ m
      k = omega arith

      by : (b : Bool) → f m ≡ b → (Downward n f m → Last (find f (downs 0 m))) → Last (find f (downs 0 (suc m)))
      by true h more =
          let r = (downward_found u (omega arith) (rw k h)).found (omega (arith, u.within)) in
          let q = r.1 in
          rw (z, h) (r.0, rw k at q, omega (arith, u.within))
      by false h more = let v = downward_turn u (omega arith) (rw k h) in rw (z, h) (more (rw k at v))

  pub first_found : (r : Option ℕ) → option_map (λ x. x) r ≡ find f (range_with_len 0 n) → First r
  first_found r h = rw (sym (option_map_id r) ∙ h) (rising n 0 (upward_start n f) (omega arith))

  pub last_found : (r : Option ℕ) → option_map (λ x. x) r ≡ find f (downs 0 n) → Last r
  last_found r h = rw (sym (option_map_id r) ∙ h) (falling n (downward_start n f))

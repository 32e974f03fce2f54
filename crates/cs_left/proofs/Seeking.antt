-- What a search by `any` leaves of a slice's iterator: what stands behind the item found. Assumes nothing.
use mathlib.Core.Bool.{Bool, true, false, true≢false}
use mathlib.Core.List.{List, [], ◌∷◌}
use mathlib.Core.Path.{◌≡◌, sym, ap, subst, ◌∙◌}
use Prim.Native.Nat.{ℕ, zero, suc, ◌+◌, ◌≤◌, ◌<◌}
use native.Mathlib.Omega.{arith}
use denote.Param.Members.{Mut}
use denote.Ref.{Bor}
use lib.ListN.{length, get_or, drop}
use Rattle.std.proofs.Common.{Iter}
use Rattle.std.specs.declared.option.Option.{Option}
use Rattle.std.specs.declared.option.Option.TheVariants.{None, Some}
use Rattle.std.specs.Fn.{Called}
use Rattle.std.specs.Iterator.{Yields, YieldsThen}
use Rattle.std.specs.List.{FoldsTo}
use Rattle.std.specs.Option.{MatchOption}
use Rattle.std.specs.Slice.Iter.{iter_rest, iter_steps}
use Rattle.std.proofs.lemmas.List.{length-drop}
use Rattle.lists.proofs.Parts.{left_at}

module _ {F : Type 0} (g : Mut F (Bor ℕ × Unit {0}) Bool) (f : F) (test : ℕ → Bool)
    (called : (x : Bor ℕ) (b : Bool) (q : F) → Called g f (x, tt) b q → (q ≡ f) × (b ≡ test x.now)) where
  abbrev Passes : F → Bor ℕ → F → Type 0
  Passes p x q = Called g p (x, tt) false q

  walked : (xs : List (Bor ℕ)) (s t : Iter ℕ) (j : F) → Yields iter_steps s xs t → FoldsTo Passes f xs j →
      (iter_rest t ≡ drop (length xs) (iter_rest s)) × (length xs ≤ length (iter_rest s)) × (j ≡ f) ×
      ((i : ℕ) → i < length xs → test (get_or (iter_rest s) i 0) ≡ false)
  walked [] s t j y z = (ap iter_rest (sym y), omega arith, sym z, λ i h. absurd (omega arith))
  walked (x ∷ xs) s t j y z =
      let c = called x false z.0 z.1 in
      let k = walked xs y.0 t j y.2 (subst (λ p. FoldsTo Passes p xs j) c.0 z.2) in (
        k.0 ∙ sym (ap (drop (suc (length xs))) y.1),
        omega (arith, k.1, ap length y.1),
        k.2,
        each c.1 k.3,
      )
    where
      each : false ≡ test x.now → ((i : ℕ) → i < length xs → test (get_or (iter_rest y.0) i 0) ≡ false) → (i : ℕ) → i < suc (length xs) →
          test (get_or (iter_rest s) i 0) ≡ false
      each e h zero l = ap (λ (m : List ℕ). test (get_or m 0 0)) y.1 ∙ sym e
      each e h (suc i) l = ap (λ (m : List ℕ). test (get_or m (suc i) 0)) y.1 ∙ h i (omega arith)

  module _ {s u : Iter ℕ} {r : Bool} (d : (xs : List (Bor ℕ)) × (o : Option (Bor ℕ)) × (j : F) × YieldsThen iter_steps s xs o u
      × FoldsTo Passes f xs j × MatchOption o (r ≡ false) (λ x. (r ≡ true) × ((h : F) × Called g j (x, tt) true h))) where
    w : (iter_rest d.3.0 ≡ drop (length d.0) (iter_rest s)) × (length d.0 ≤ length (iter_rest s)) × (d.2 ≡ f) ×
        ((i : ℕ) → i < length d.0 → test (get_or (iter_rest s) i 0) ≡ false)
    w = walked d.0 s d.3.0 d.2 d.3.1 d.4

    -- nothing passes
    pub none-passes : r ≡ false → (i : ℕ) → i < length (iter_rest s) → test (get_or (iter_rest s) i 0) ≡ false
    none-passes e i h = go d.1 d.3.2 d.5
      where
        go : (o : Option (Bor ℕ)) → iter_steps d.3.0 o u → MatchOption o (r ≡ false) (λ x. (r ≡ true) × ((h : F) × Called g d.2 (x, tt) true h)) →
            test (get_or (iter_rest s) i 0) ≡ false
        go None a b = w.3 i (omega (arith, a.0, ap length w.0, length-drop (length d.0) (iter_rest s)))
        go (Some x) a b = absurd (true≢false (sym b.0 ∙ e))

    -- an item passes, and what is left stands behind it
    pub one-passes : r ≡ true → (m : ℕ) × (m < length (iter_rest s)) × (test (get_or (iter_rest s) m 0) ≡ true) ×
        (iter_rest u ≡ drop (m + 1) (iter_rest s))
    one-passes e = go d.1 d.3.2 d.5
      where
        go : (o : Option (Bor ℕ)) → iter_steps d.3.0 o u → MatchOption o (r ≡ false) (λ x. (r ≡ true) × ((h : F) × Called g d.2 (x, tt) true h)) →
            (m : ℕ) × (m < length (iter_rest s)) × (test (get_or (iter_rest s) m 0) ≡ true) × (iter_rest u ≡ drop (m + 1) (iter_rest s))
        go None a b = absurd (true≢false (sym e ∙ b))
        go (Some x) a b =
            let R = iter_rest s in
            let m = length d.0 in
            let h : drop m R ≡ x.now ∷ iter_rest u = sym w.0 ∙ a in
            let l : m < length R = omega (arith, ap length h, length-drop m R) in
            let z : drop m R ≡ get_or R m 0 ∷ drop (m + 1) R = left_at R m 0 l in
            let v : get_or R m 0 ≡ x.now = ap (λ (k : List ℕ). get_or k 0 0) (sym z ∙ h) in (
              m,
              l,
              ap test v ∙ sym (called x true b.1.0 (subst (λ p. Called g p (x, tt) true b.1.0) w.2 b.1.1)).1,
              ap (drop 1) (sym h ∙ z),
            )

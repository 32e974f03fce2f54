-- Two lists walked side by side, where one may be shorter: the walk ends with the shorter. Assumes nothing.
use Rattle.std.proofs.Common.{◌≡◌, ℕ, ◌+◌, ◌<◌, ◌≤◌, ◌⊎◌, List, [], ◌∷◌, length, get_or, drop, sym, refl, ap, ◌∙◌, ⊎_elim}
use Rattle.lists.specs.Folds.{over}
use Rattle.lists.proofs.Parts.{left_at, left-none}

-- what is left of both at k: the pair there and the rest; or one of them is empty
module _ {A B R : Type 0} (f : List A → List B → R) (l : List A) (m : List B) (k : ℕ) where
  pub pair_at : (d : A) (e : B) → k < length l → k < length m → f (drop k l) (drop k m)
      ≡ f (get_or l k d ∷ drop (k + 1) l) (get_or m k e ∷ drop (k + 1) m)
  pair_at d e g h = rw (left_at l k d g, left_at m k e h)

  pub pair_none : {r : R} → ((u : List B) → f [] u ≡ r) → ((u : List A) → f u [] ≡ r) → (length l ≤ k) ⊎ (length m ≤ k) → f (drop k l) (drop k m) ≡ r
  pair_none p q h =
      ⊎_elim
      (λ (g : length l ≤ k). ap (λ (u : List A). f u (drop k m)) (left-none l k g) ∙ p (drop k m))
      (λ (g : length m ≤ k). ap (λ (u : List B). f (drop k l) u) (left-none m k g) ∙ q (drop k l))
      h

-- ---- over, with no word on the lengths
module _ {A B S : Type 0} (f : A → B → S → S) (l : List A) (m : List B) where
  pub record Paired (s₀ s : S) (k : ℕ) : Type 0 where
    pub rest : over f l m s₀ ≡ over f (drop k l) (drop k m) s

  pub paired-start : (s : S) → Paired s s 0
  paired-start s = record { rest = refl }

  pub paired-turn : {s₀ s t : S} {k : ℕ} (d : A) (e : B) → Paired s₀ s k → k < length l → k < length m → t ≡ f (get_or l k d) (get_or m k e) s →
      Paired s₀ t (k + 1)
  unfolding over
  paired-turn {s = s} {t = t} {k = k} d e v g h q =
      record {
        rest = v.rest ∙ pair_at (λ (u : List A) (w : List B). over f u w s) l m k d e g h ∙
            ap (over f (drop (k + 1) l) (drop (k + 1) m)) (sym q);
      }

  pub paired-end : {s₀ s : S} {k : ℕ} → Paired s₀ s k → (length l ≤ k) ⊎ (length m ≤ k) → s ≡ over f l m s₀
  unfolding over
  paired-end {s = s} {k = k} v h = sym (v.rest ∙ pair_none (λ (u : List A) (w : List B). over f u w s) l m k (λ u. refl) none h)
    where
      none : (u : List A) → over f u [] s ≡ s
      none [] = refl
      none (x ∷ u) = refl

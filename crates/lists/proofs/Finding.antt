-- A search that goes on behind what it found: the first of a list that grows. Assumes nothing.
use Rattle.std.proofs.Common.{◌≡◌, ℕ, ◌<◌, ◌≤◌, Bool, true, false, cond, List, [], ◌∷◌, ◌++◌, sym, refl, ◌∙◌, true≢false, append-nil, arith}
use Rattle.lists.specs.Choices.{keep, some, first_or, Found}
use Rattle.lists.proofs.Chosen.{keep_append}

first_behind : (l : List ℕ) (j : ℕ) → some l ≡ true → (some (l ++ (j ∷ [])) ≡ true) × (first_or 0 l ≡ first_or 0 (l ++ (j ∷ [])))
first_behind [] j h = absurd (true≢false (sym h))
first_behind (x ∷ l) j h = (refl, refl)

first_new : (l : List ℕ) (j : ℕ) → some l ≡ false → (some (l ++ (j ∷ [])) ≡ true) × (j ≡ first_or 0 (l ++ (j ∷ [])))
first_new [] j h = (refl, refl)
first_new (x ∷ l) j h = absurd (true≢false h)

-- what a search finds in the kept part of a list, from the front
abbrev pub FoundIn : ℕ → (ℕ → Bool) → List ℕ → ℕ → Type 0
FoundIn n f l r = Found n (keep f l) (first_or 0 (keep f l)) r

pub found_none : (n : ℕ) (f : ℕ → Bool) → FoundIn n f [] n
unfolding keep
found_none n f = record { found = λ h. absurd (omega arith); none = λ h. refl }

module _ {n : ℕ} (f : ℕ → Bool) (l : List ℕ) {r : ℕ} (v : FoundIn n f l r) (j : ℕ) where
  one_more : (b : Bool) → f j ≡ b → keep f (l ++ (j ∷ [])) ≡ keep f l ++ cond b (j ∷ []) []
  unfolding keep
  one_more b e = keep_append f l (j ∷ []) ∙ (rw e)

  -- j is not kept; something before it is kept; it is the first that is kept
  pub found-not : f j ≡ false → FoundIn n f (l ++ (j ∷ [])) r
  found-not e = rw (one_more false e, append-nil (keep f l)) v

  pub found_before : f j ≡ true → r < n → FoundIn n f (l ++ (j ∷ [])) r
  found_before e h =
      let t = v.found h in
      let u = first_behind (keep f l) j t.0 in
      rw (one_more true e) (record { found = λ m. (u.0, t.1 ∙ u.1); none = λ m. absurd (omega arith) })

  pub found_new : f j ≡ true → n ≤ r → j < n → FoundIn n f (l ++ (j ∷ [])) j
  found_new e h g =
      let u = first_new (keep f l) j (v.none h) in
      rw (one_more true e) (record { found = λ m. u; none = λ m. absurd (omega arith) })

-- A search that goes on behind what it found: the first of a list that grows. Assumes nothing.
use Rattle.std.proofs.Common.{◌≡◌, ℕ, ◌<◌, Bool, true, false, cond, List, [], ◌∷◌, ◌++◌, Option, Some, None, refl, append-nil}
use Rattle.std.specs.Option.{is_some}
use Rattle.lists.specs.Choices.{keep, some, first_or}
use Rattle.lists.proofs.Chosen.{keep_append}
use Rattle.cs_solve.specs.Judge.{Names}

first_behind : (l m : List ℕ) → some l ≡ true → (some (l ++ m) ≡ true) × (first_or 0 (l ++ m) ≡ first_or 0 l)
first_behind [] m h = absurd (cc)
first_behind (x ∷ l) m h = (refl, refl)

-- what a search finds in the kept part of a list, from the front
abbrev pub NamesIn : ℕ → (ℕ → Bool) → List ℕ → Option ℕ → Type 0
NamesIn n f l r = Names n (keep f l) (first_or 0 (keep f l)) r

pub names_none : (n : ℕ) (f : ℕ → Bool) → NamesIn n f [] None
unfolding keep
names_none n f = refl

one_more : (f : ℕ → Bool) (l : List ℕ) (j : ℕ) → keep f (l ++ (j ∷ [])) ≡ keep f l ++ cond (f j) (j ∷ []) []
unfolding keep
one_more f l j = keep_append f l (j ∷ [])

module _ (n : ℕ) (f : ℕ → Bool) (l : List ℕ) (j : ℕ) where
  -- j is not kept; something before it is kept; it is the first that is kept
  pub names-not : (r : Option ℕ) → f j ≡ false → NamesIn n f l r → NamesIn n f (l ++ (j ∷ [])) r
  names-not r e v = rw (one_more, e, append-nil (keep f l)) v

  pub names_before : (r : Option ℕ) → is_some r ≡ true → NamesIn n f l r → NamesIn n f (l ++ (j ∷ [])) r
  names_before None h v = absurd (cc)
  names_before (Some k) h v = let b = first_behind (keep f l) (cond (f j) (j ∷ []) []) v.0 in rw (one_more, b.0, b.1) (refl, v.1, v.2)

  pub names_new : (r : Option ℕ) → is_some r ≡ false → f j ≡ true → j < n → NamesIn n f l r → NamesIn n f (l ++ (j ∷ [])) (Some j)
  names_new (Some k) g e h v = absurd (cc)
  names_new None g e h v = rw (one_more, e) (go (keep f l) v)
    where
      go : (m : List ℕ) → some m ≡ false → (some (m ++ (j ∷ [])) ≡ true) × (j ≡ first_or 0 (m ++ (j ∷ []))) × (j < n)
      go [] u = (refl, refl, h)
      go (x ∷ m) u = absurd (cc)

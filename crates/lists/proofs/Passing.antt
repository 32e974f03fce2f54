-- Judgements that all passed. Assumes nothing.
use Rattle.std.proofs.Common.{◌≡◌, ℕ, Bool, true, false, cond, List, [], ◌∷◌, ◌++◌, refl, arith}
use Rattle.lists.specs.Calls.{lowest}
use Rattle.lists.proofs.Calls.{Early}

-- where no number applies, none does of the first or of the later ones
pub lowest-none : (cs ds : List (ℕ × Bool)) → Early cs → lowest (cs ++ ds) ≡ 0 → (lowest cs ≡ 0) × (lowest ds ≡ 0)
lowest-none [] ds g h = (refl, h)
lowest-none (c ∷ cs) ds g h = go c.1 h (lowest-none cs ds g.2)
  where
    go : (b : Bool) → cond b c.0 (lowest (cs ++ ds)) ≡ 0 → (lowest (cs ++ ds) ≡ 0 → (lowest cs ≡ 0) × (lowest ds ≡ 0)) →
        (cond b c.0 (lowest cs) ≡ 0) × (lowest ds ≡ 0)
    go true h f = absurd (omega (arith, g.0))
    go false h f = f h

pub early_append : (cs ds : List (ℕ × Bool)) → Early cs → Early ds → Early (cs ++ ds)
early_append [] ds g h = h
early_append (c ∷ cs) ds g h = (g.0, g.1, early_append cs ds g.2 h)

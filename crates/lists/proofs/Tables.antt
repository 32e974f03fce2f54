-- A table's length and its places. Assumes nothing.
use Rattle.std.proofs.Common.{◌≡◌, ℕ, zero, suc, ◌+◌, ◌<◌, List, length, get_or, sym, refl, ap, ◌∙◌, add-zero, add-suc, suc-add, arith, ext_get_or}
use Rattle.lists.specs.Tables.{from, table}

module _ {A : Type 0} where
  length_from : (f : ℕ → A) (b n : ℕ) → length (from f b n) ≡ n
  unfolding from
  length_from f b zero = refl
  length_from f b (suc n) = ap suc (length_from f (suc b) n)

  get_or-from : (f : ℕ → A) (b n k : ℕ) (d : A) → k < n → get_or (from f b n) k d ≡ f (b + k)
  unfolding from
  get_or-from f b zero k d h = absurd (omega arith)
  get_or-from f b (suc n) zero d h = rw add-zero
  get_or-from f b (suc n) (suc k) d h = rw (get_or-from f (suc b) n k d (omega arith), suc-add, add-suc)

  pub length-table : (n : ℕ) (f : ℕ → A) → length (table n f) ≡ n
  length-table n f = length_from f 0 n

  pub get_or-table : (n : ℕ) (f : ℕ → A) (k : ℕ) (d : A) → k < n → get_or (table n f) k d ≡ f k
  get_or-table n f k d h = let e : 0 + k ≡ k = omega arith in rw e at (get_or-from f 0 n k d h)

  -- a list with n places that holds f k at each k
  pub is-table : (d : A) (n : ℕ) (f : ℕ → A) (l : List A) → length l ≡ n → ((k : ℕ) → k < n → get_or l k d ≡ f k) → l ≡ table n f
  is-table d n f l e h = ext_get_or d l (table n f) (e ∙ sym (length-table n f)) (λ k m. h k (omega arith) ∙ sym (get_or-table n f k d (omega arith)))

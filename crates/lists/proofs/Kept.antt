-- What is kept of a list at which a test holds, place by place. Assumes nothing.
use Rattle.std.proofs.Common.{◌≡◌, ℕ, ◌+◌, ◌<◌, ◌≤◌, Bool, true, false, cond, List, [], ◌∷◌, ◌++◌, length, get_or, take, drop, sym, ap, ◌∙◌}
use Rattle.std.proofs.Common.{add-one, arith, length-append, take-append-drop, take-suc}
use Rattle.lists.specs.Choices.{keep}
use Rattle.lists.proofs.Chosen.{keep_append}

module _ (f : ℕ → Bool) (l : List ℕ) where
  one_kept : (r : ℕ) (b : Bool) → f r ≡ b → keep f (r ∷ []) ≡ cond b (r ∷ []) []
  unfolding keep
  one_kept r b e = rw e

  pub keep-next : (k : ℕ) → k < length l → (b : Bool) → f (get_or l k 0) ≡ b → keep f (take (k + 1) l)
      ≡ keep f (take k l) ++ cond b (get_or l k 0 ∷ []) []
  keep-next k h b e =
      rw (add-one, take-suc l k 0 h)
      (keep_append f (take k l) (get_or l k 0 ∷ []) ∙ ap (λ (t : List ℕ). keep f (take k l) ++ t) (one_kept (get_or l k 0) b e))

  pub keep-front : (k : ℕ) → length (keep f (take k l)) ≤ length (keep f l)
  keep-front k =
      let e = ap (keep f) (sym (take-append-drop k l)) ∙ keep_append f (take k l) (drop k l) in
      omega (arith, ap length e, length-append (keep f (take k l)) (keep f (drop k l)))

  pub keep-within : length (keep f l) ≤ length l
  unfolding keep
  keep-within = go l
    where
      step : (b : Bool) (x : ℕ) (l : List ℕ) → length (cond b (x ∷ keep f l) (keep f l)) ≤ length (keep f l) + 1
      step true x l = omega arith
      step false x l = omega arith

      go : (l : List ℕ) → length (keep f l) ≤ length l
      go [] = omega arith
      go (x ∷ l) = omega (arith, step (f x) x l, go l)

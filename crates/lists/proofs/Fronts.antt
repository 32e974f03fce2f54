-- A list that was written to from the front: what stands in front, and that the rest is as it was. Assumes nothing.
use Rattle.std.proofs.Common.{◌≡◌, ℕ, zero, suc, ◌+◌, ◌-◌, ◌<◌, ◌≤◌, List, [], ◌∷◌, ◌++◌, length, take, drop, set, replicate, sym, refl, ap, ◌∙◌}
use Rattle.std.proofs.Common.{add-one, arith, take-append-drop, length-take-le, drop-drop, take-suc-set, drop-set-lt}
use Rattle.lists.specs.Calls.{cleared, onto}

module _ {A : Type 0} where
  -- lists that are the same from a on are the same further on
  pub drop_further : (a b : ℕ) (x y : List A) → a ≤ b → drop a x ≡ drop a y → drop b x ≡ drop b y
  drop_further a b x y h e =
      let f : a + (b - a) ≡ b = omega arith in
      let p : drop (b - a) (drop a x) ≡ drop b x = rw f at (drop-drop (b - a) a x) in
      let q : drop (b - a) (drop a y) ≡ drop b y = rw f at (drop-drop (b - a) a y) in
      sym p ∙ ap (drop (b - a)) e ∙ q

  -- a store at k, in front of it and behind
  pub take_more : (l : List A) (k : ℕ) (a : A) → k < length l → take (k + 1) (set l k a) ≡ take k l ++ (a ∷ [])
  take_more l k a h = rw (add-one) (take-suc-set l k a h)

  pub drop_more : (l : List A) (k : ℕ) (a : A) → drop (k + 1) (set l k a) ≡ drop (k + 1) l
  drop_more l k a = drop-set-lt (k + 1) l k a (omega arith)

  -- what stands in front, written over what was there
  pub onto-is : (e : ℕ) (new old : List A) → e ≤ length new → drop e new ≡ drop e old → onto old (take e new) ≡ new
  unfolding onto
  onto-is e new old h b = rw (length-take-le e new h, ← b) (take-append-drop e new)

  -- a front that is cleared
  pub cleared-is : (z : A) (n : ℕ) (l : List A) → n ≤ length l → cleared z n l ≡ replicate n z ++ drop n l
  unfolding cleared
  cleared-is z zero l h = refl
  cleared-is z (suc n) [] h = absurd (omega arith)
  cleared-is z (suc n) (x ∷ l) h = ap (λ (t : List A). z ∷ t) (cleared-is z n l (omega arith))

-- The sparse solve agrees with the dense one of the same right side. Assumes nothing.
use mathlib.Core.Path.{◌≡◌, refl, ◌∙◌}
use mathlib.Core.Bool.{Bool, true, false, cond}
use mathlib.Core.List.{List, [], ◌∷◌, ◌++◌, map, append-nil, Memᴰ}
use mathlib.Core.Logic.{inl, ⊎_elim}
use Prim.Native.Nat.{ℕ, zero, suc, ◌≤◌, ◌<◌}
use native.Mathlib.Omega.{arith}
use lib.Dec.{T}
use lib.Ieee.{Float, nan, binary64, of_bits, sub, mul, div, fits}
use lib.Ieee.Fits.{sub-fits, mul-fits, div-fits}
use lib.ListN.{length, get_or, set, replicate, length-set, length-replicate, get_or-replicate}
use lib.Seq.{get_or-set_same, get_or-set_other}
use borrow.Author.Tests.{lt-ltb, le-ltb}
use Rattle.lists.specs.Calls.{none}
use Rattle.lists.specs.Choices.{chosen}
use Rattle.lists.specs.Folds.{turns, along, over}
use Rattle.lists.specs.Order.{lists}
use Rattle.lists.proofs.Bools.{le-or-lt, eq-or-ne, not-both}
use Rattle.lists.proofs.Ordering.{lists_mean, member_lists}
use Rattle.cs_matrix.specs.Matrix.{Matrix, matrix, pattern, vector, Valid, ValidVector, column}
use Rattle.float_laws.specs.Zeros.{Zero, Alike}
use Rattle.float_laws.proofs.Zeros.{alike_sym, zero_alike, alike_trans, mul-zero, mul_alike, div-zero, div_alike, sub_zero, sub_alike, is_zero}
use Rattle.float_laws.proofs.Zeros.{fits-zero}
use Rattle.cs_solve.specs.Diagonal.{diagonal, lacking}
use Rattle.cs_solve.specs.Solve.{lower_at, forward_at, forward_column, forward}
use Rattle.cs_solve_cs.specs.Agree.{Harmless, Agrees}
use Rattle.cs_solve_cs.specs.Reach.{reached}
use Rattle.cs_solve_cs.specs.SolveCs.{put_at, right, steps, solution}
use Rattle.lists.proofs.Chosen.{along-more, chosen_member, member_chosen}
use Rattle.lists.proofs.Spots.{member_at}
use Rattle.cs_solve_cs.proofs.Least.{row_below, hit_row, hit_stored}
use Rattle.cs_solve_cs.proofs.Reaching.{reaches, below-is}

-- ---- two folds side by side
over-two : {S U : Type 0} (P : S → U → Type 0) (f : ℕ → Float → S → S) (g : ℕ → Float → U → U) (rows : List ℕ) (vals : List Float)
    → ((k : ℕ) → k < length rows → (s : S) (u : U) → P s u →
    P (f (get_or rows k 0) (get_or vals k nan) s) (g (get_or rows k 0) (get_or vals k nan) u))
    → (s : S) (u : U) → P s u → P (over f rows vals s) (over g rows vals u)
unfolding over
over-two P f g [] vals h s u p = p
over-two P f g (i ∷ rows) [] h s u p = p
over-two P f g (i ∷ rows) (v ∷ vals) h s u p = over-two P f g rows vals (λ k l. h (suc k) (omega arith)) (f i v s) (g i v u) (h 0 (omega arith) s u p)

over-one : {S : Type 0} (P : S → Type 0) (f : ℕ → Float → S → S) (rows : List ℕ) (vals : List Float)
    → ((k : ℕ) → k < length rows → (s : S) → P s → P (f (get_or rows k 0) (get_or vals k nan) s)) → (s : S) → P s → P (over f rows vals s)
over-one P f rows vals h s p = over-two (λ s (n : ℕ). P s) f (λ i v n. n) rows vals (λ k l s n. h k l s) s 0 p

value-at : (f : ℕ → Float) (l : List ℕ) (q : ℕ) → q < length l → get_or (map f l) q nan ≡ f (get_or l q 0)
value-at f [] q h = absurd (omega arith)
value-at f (x ∷ l) zero h = refl
value-at f (x ∷ l) (suc q) h = value-at f l q (omega arith)

lower-is : (j : ℕ) (x : Float) (i : ℕ) (v : Float) (b : List Float) → j < i → lower_at j x i v b
    ≡ set b i (sub binary64 (get_or b i nan) (mul binary64 x v))
unfolding lower_at
lower-is j x i v b h = rw (lt-ltb j i h)

lower-not : (j : ℕ) (x : Float) (i : ℕ) (v : Float) (b : List Float) → i ≤ j → lower_at j x i v b ≡ b
unfolding lower_at
lower-not j x i v b h = rw (le-ltb j i h)

module _ (n : ℕ) (p i : List ℕ) (v : List Float) (bi : List ℕ) (bv : List Float) where
  abbrev a : Matrix
  a = matrix n n p i v

  abbrev R : ℕ → Bool
  R k = reaches (pattern n n p i) bi k

  -- at row k the dense solve has d and the sparse one s
  record Point (k : ℕ) (d s : Float) : Type 0 where
    fits_d : T (fits binary64 d)
    fits_s : T (fits binary64 s)
    on : R k ≡ true → Alike d s
    off : R k ≡ false → Zero d

  record Rel (d s : List Float) : Type 0 where
    long_d : length d ≡ n
    long_s : length s ≡ n
    each : (k : ℕ) → k < n → Point k (get_or d k nan) (get_or s k nan)

  put_both : {d s : List Float} → Rel d s → (q : ℕ) → q < n → {x y : Float} → Point q x y → Rel (set d q x) (set s q y)
  put_both {d} {s} r q h {x} {y} c = record {
    long_d = length-set d q x ∙ r.long_d;
    long_s = length-set s q y ∙ r.long_s;
    each =
        λ k l. ⊎_elim (λ (e : k ≡ q). here k e) (λ (e : k ≡ q → ⊥). rw (get_or-set_other d q k x nan e, get_or-set_other s q k y nan e) (r.each k l))
        (eq-or-ne k q);
  }
    where
      here : (k : ℕ) → k ≡ q → Point k (get_or (set d q x) k nan) (get_or (set s q y) k nan)
      here k e = rw (e, get_or-set_same d q x nan (omega (arith, r.long_d)), get_or-set_same s q y nan (omega (arith, r.long_s))) c

  put-left : {d s : List Float} → Rel d s → (q : ℕ) → q < n → {x : Float} → Point q x (get_or s q nan) → Rel (set d q x) s
  put-left {d} {s} r q h {x} c = record {
    long_d = length-set d q x ∙ r.long_d;
    long_s = r.long_s;
    each = λ k l. ⊎_elim (λ (e : k ≡ q). here k e) (λ (e : k ≡ q → ⊥). rw (get_or-set_other d q k x nan e) (r.each k l)) (eq-or-ne k q);
  }
    where
      here : (k : ℕ) → k ≡ q → Point k (get_or (set d q x) k nan) (get_or s k nan)
      here k e = rw (e, get_or-set_same d q x nan (omega (arith, r.long_d))) c

  module _ (ok : Valid (matrix n n p i v)) where
    module _ (j : ℕ) (h : j < n) where
      abbrev rows : List ℕ
      rows = column p j i

      abbrev vals : List Float
      vals = column p j v

      -- a reached column
      on_step : R j ≡ true → (d s : List Float) → Rel d s → Rel (forward_column a j d) (forward_column a j s)
      unfolding forward_column forward_at
      on_step t d s r =
          let e = diagonal a j in
          let c = r.each j h in
          let x = div binary64 (get_or d j nan) e in
          let y = div binary64 (get_or s j nan) e in
          let al = div_alike (get_or d j nan) (get_or s j nan) e (c.on t) in
          over-two Rel (lower_at j x) (lower_at j y) rows vals (lower-both x y al) (set d j x) (set s j y)
          (put_both r j h (record {
            fits_d = div-fits binary64 (get_or d j nan) e;
            fits_s = div-fits binary64 (get_or s j nan) e;
            on = λ u. al;
            off = λ u. absurd (not-both (R j) t u);
          }))
        where
          lower-both : (x y : Float) → Alike x y → (k : ℕ) → k < length rows → (d s : List Float) → Rel d s →
              Rel (lower_at j x (get_or rows k 0) (get_or vals k nan) d) (lower_at j y (get_or rows k 0) (get_or vals k nan) s)
          lower-both x y al k l d s r = ⊎_elim (λ (g : get_or rows k 0 ≤ j). not g) (λ (g : j < get_or rows k 0). yes g)
              (le-or-lt (get_or rows k 0) j)
            where
              not : get_or rows k 0 ≤ j → Rel (lower_at j x (get_or rows k 0) (get_or vals k nan) d)
                  (lower_at j y (get_or rows k 0) (get_or vals k nan) s)
              not g = rw (lower-not j x (get_or rows k 0) (get_or vals k nan) d g, lower-not j y (get_or rows k 0) (get_or vals k nan) s g) r

              yes : j < get_or rows k 0 → Rel (lower_at j x (get_or rows k 0) (get_or vals k nan) d)
                  (lower_at j y (get_or rows k 0) (get_or vals k nan) s)
              yes g = rw (lower-is j x (get_or rows k 0) (get_or vals k nan) d g, lower-is j y (get_or rows k 0) (get_or vals k nan) s g)
                  (put_both r (get_or rows k 0) inside (record {
                    fits_d = sub-fits binary64 (get_or d (get_or rows k 0) nan) (mul binary64 x (get_or vals k nan));
                    fits_s = sub-fits binary64 (get_or s (get_or rows k 0) nan) (mul binary64 y (get_or vals k nan));
                    on = λ u. sub_alike _ _ _ _ c.fits_s (mul-fits binary64 x (get_or vals k nan)) (c.on u) (mul_alike x y (get_or vals k nan) al);
                    off = λ u. absurd (not-both (R (get_or rows k 0)) (hit_stored (pattern n n p i) bi j (get_or rows k 0) t g m) u);
                  }))
                where
                  m : Memᴰ (get_or rows k 0) rows
                  m = member_at rows k l

                  inside : get_or rows k 0 < n
                  inside = row_below ok.pattern j (get_or rows k 0) h m

                  c : Point (get_or rows k 0) (get_or d (get_or rows k 0) nan) (get_or s (get_or rows k 0) nan)
                  c = r.each (get_or rows k 0) inside

      -- an unreached one
      off_step : R j ≡ false → Harmless a j → (d s : List Float) → Rel d s → Rel (forward_column a j d) s
      unfolding forward_column forward_at lacking
      off_step t hm d s r =
          let e = diagonal a j in
          let c = r.each j h in
          let x = div binary64 (get_or d j nan) e in
          let z = div-zero (get_or d j nan) e (c.off t) hm.there hm.number in
          over-one (λ d. Rel d s) (lower_at j x) rows vals (lower-one x z) (set d j x)
          (put-left r j h (record {
            fits_d = div-fits binary64 (get_or d j nan) e;
            fits_s = c.fits_s;
            on = λ u. absurd (not-both (R j) u t);
            off = λ u. z;
          }))
        where
          lower-one : (x : Float) → Zero x → (k : ℕ) → k < length rows → (d : List Float) → Rel d s →
              Rel (lower_at j x (get_or rows k 0) (get_or vals k nan) d) s
          lower-one x z k l d r = ⊎_elim (λ (g : get_or rows k 0 ≤ j). rw (lower-not j x (get_or rows k 0) (get_or vals k nan) d g) r)
              (λ (g : j < get_or rows k 0). yes g) (le-or-lt (get_or rows k 0) j)
            where
              yes : j < get_or rows k 0 → Rel (lower_at j x (get_or rows k 0) (get_or vals k nan) d) s
              yes g = rw (lower-is j x (get_or rows k 0) (get_or vals k nan) d g) (put-left r (get_or rows k 0) inside (record {
                fits_d = sub-fits binary64 (get_or d (get_or rows k 0) nan) (mul binary64 x (get_or vals k nan));
                fits_s = c.fits_s;
                on = λ u. alike_trans _ _ _ al (c.on u);
                off = λ u. zero_alike _ _ (alike_sym _ _ al) (c.off u);
              }))
                where
                  inside : get_or rows k 0 < n
                  inside = row_below ok.pattern j (get_or rows k 0) h (member_at rows k l)

                  c : Point (get_or rows k 0) (get_or d (get_or rows k 0) nan) (get_or s (get_or rows k 0) nan)
                  c = r.each (get_or rows k 0) inside

                  al : Alike (sub binary64 (get_or d (get_or rows k 0) nan) (mul binary64 x (get_or vals k nan))) (get_or d (get_or rows k 0) nan)
                  al = sub_zero (get_or d (get_or rows k 0) nan) (mul binary64 x (get_or vals k nan)) c.fits_d
                      (mul-zero x (get_or vals k nan) z (hm.values k l g))

    -- all columns
    columns : ((j : ℕ) → j < n → R j ≡ false → Harmless a j) → (m : ℕ) → m ≤ n → (x : List Float) → Rel x x →
        Rel (turns m (forward_column a) x) (along (forward_column a) (chosen m R) x)
    unfolding turns chosen along
    columns hm zero l x r = r
    columns hm (suc m) l x r = go (R m) refl (columns hm m (omega arith) x r)
      where
        go : (t : Bool) → R m ≡ t → Rel (turns m (forward_column a) x) (along (forward_column a) (chosen m R) x) →
            Rel (forward_column a m (turns m (forward_column a) x)) (along (forward_column a) (chosen m R ++ cond t (m ∷ []) []) x)
        go true e r = rw (along-more (forward_column a) (chosen m R) m x) (on_step m (omega arith) e _ _ r)
        go false e r = rw (append-nil (chosen m R)) (off_step m (omega arith) e (hm m (omega arith) e) _ _ r)

    module _ (side : ValidVector (vector n bi bv)) (known : (k : ℕ) → T (fits binary64 (get_or bv k nan))) where
      -- the right side
      start : Rel (right (vector n bi bv)) (right (vector n bi bv))
      unfolding right of_bits
      start = over-one (λ x. Rel x x) put_at bi bv put (replicate n none)
          (record {
            long_d = length-replicate n none;
            long_s = length-replicate n none;
            each =
                λ k l. rw (get_or-replicate n k none nan l) (record {
                  fits_d = fits-zero false;
                  fits_s = fits-zero false;
                  on = λ u. inl refl;
                  off = λ u. is_zero false;
                });
          })
        where
          put : (k : ℕ) → k < length bi → (x : List Float) → Rel x x →
              Rel (put_at (get_or bi k 0) (get_or bv k nan) x) (put_at (get_or bi k 0) (get_or bv k nan) x)
          put k l x r = put_both r (get_or bi k 0) (side.below k l) (record {
            fits_d = known k;
            fits_s = known k;
            on = λ u. inl refl;
            off = λ u. absurd (not-both (R (get_or bi k 0)) (hit_row (pattern n n p i) bi (get_or bi k 0) (member_at bi k l)) u);
          })

      whole : ((j : ℕ) → j < n → R j ≡ false → Harmless a j) → Rel (forward a (right (vector n bi bv))) (steps a (vector n bi bv))
      unfolding forward steps reached
      whole hm = rw (below-is (pattern n n p i) bi n) (columns hm n (omega arith) (right (vector n bi bv)) start)

      -- listed is reached
      listed : (k : ℕ) → Memᴰ k (reached (pattern n n p i) bi) → (k < n) × (R k ≡ true)
      unfolding reached
      listed k m = let c = chosen_member R n k (rw (below-is (pattern n n p i) bi n) at m) in (c.below, c.holds)

      unlisted : (k : ℕ) → k < n → lists k (reached (pattern n n p i) bi) ≡ false → R k ≡ false
      unfolding reached
      unlisted k l h = go (R k) refl
        where
          go : (t : Bool) → R k ≡ t → t ≡ false
          go true e = absurd (not-both (lists k (reached (pattern n n p i) bi))
              (member_lists k (reached (pattern n n p i) bi) (rw (below-is (pattern n n p i) bi n) (member_chosen R n k l e))) h)
          go false e = refl

      not_listed : (k : ℕ) → R k ≡ false → lists k (reached (pattern n n p i) bi) ≡ false
      not_listed k h = go (lists k (reached (pattern n n p i) bi)) refl
        where
          go : (t : Bool) → lists k (reached (pattern n n p i) bi) ≡ t → t ≡ false
          go true e = absurd (not-both (R k) (listed k (lists_mean k (reached (pattern n n p i) bi) e)).1 h)
          go false e = refl

      pub agrees : ((j : ℕ) → j < n → lists j (solution a (vector n bi bv)).i ≡ false → Harmless a j) → Agrees a (vector n bi bv)
      unfolding solution
      agrees hm =
          let r = whole (λ j l t. hm j l (not_listed j t)) in
          let l = reached (pattern n n p i) bi in
          record {
            on = λ q g. let m = listed (get_or l q 0) (member_at l q g) in rw (value-at (λ (j : ℕ). get_or (steps a (vector n bi bv)) j nan) l q g)
                ((r.each (get_or l q 0) m.0).on m.1);
            off = λ k g t. (r.each k g).off (unlisted k g t);
          }

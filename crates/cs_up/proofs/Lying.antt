-- What the analysis that is served says of L where it lies, and of the order in U's columns. Assumes nothing.
use mathlib.Core.List.Memᴰ
use mathlib.Core.List.{List, [], ◌∷◌, Memᴰ}
use mathlib.Core.Logic.{⊎_elim, inl, inr}
use mathlib.Core.Path.{◌≡◌, refl, sym, ap, ◌∙◌}
use Prim.Native.Nat.{ℕ, zero, suc, ◌+◌, ◌-◌, ◌≤◌, ◌<◌}
use native.Mathlib.Nat.{eq-or-lt_of_le}
use native.Mathlib.Omega.{arith}
use lib.Ieee.{Float}
use lib.ListN.{length, get_or, drop}
use lib.Seq.{take_all}
use Rattle.lists.proofs.Ordering.{rises-apart, rising_rises}
use Rattle.lists.proofs.Parts.{get_d_part}
use Rattle.lists.proofs.Spots.{member_at, spot}
use Rattle.cs_matrix.specs.Matrix.{pattern}
use Rattle.cs_tree.specs.Least.{In, Behind, last, next, IsParent}
use Rattle.cs_tree.specs.Pattern.{upper, lower, entries}
use Rattle.cs_tree.specs.Tree.{root, tree}
use Rattle.cs_tree.proofs.Laws.{fill_upper}
use Rattle.cs_tree.proofs.Promises.{filled}
use Rattle.cs_pattern.specs.Columns.{columns}
use Rattle.cs_pattern.proofs.Columns.{columns_fit, columns_long}
use Rattle.cs_cholesky.specs.Served.{Served}
use Rattle.cs_cholesky.proofs.Serving.{laid-size, laid_order}
use Rattle.cs_up.specs.Steps.{Lies}

-- ---- the order: each row of column r that has j is behind j
walk : {par : List ℕ} {k r p : ℕ} → ((l : List ℕ) → Behind par k (p ∷ l) → Memᴰ r l) → {l : List ℕ} → Behind par k l → Memᴰ p l → Memᴰ r l
walk f last m = absurd (Memᴰ.not-nil m)
walk f (next {x = x} {xs = xs} g b) m = ⊎_elim (λ e. Memᴰ.tail (f xs (rw e (next {x = x} g b)))) (λ n. Memᴰ.tail (walk f b n)) (Memᴰ.cases_cons m)

module _ (par : List ℕ) (us : List (List ℕ)) (k r : ℕ) (o : r ≤ k) (parent : (j : ℕ) → In us j r → IsParent (In us) j (get_or par j root))
    (crosses : (i j k : ℕ) → i < j → j < k → In us i j → In us i k → In us j k) where
  behind_head : (b j : ℕ) → r ≤ j + b → {l : List ℕ} → Behind par k (j ∷ l) → In us j r → j < r → Memᴰ r l
  unfolding IsParent
  behind_head zero j h w m g = absurd (omega arith)
  behind_head (suc b) j h (next f w) m g = elim (parent j m) [
    | inl q ↦ absurd (q.1 r g m)
    | inr q ↦
        let l = q.2 r g m in
        let p = f (omega (arith, l)) in
        ⊎_elim
        (λ (e : get_or par j root ≡ r). rw e at p)
        (λ (s : get_or par j root < r). walk (λ l z. behind_head b (get_or par j root) (omega (arith, q.0)) z
        (crosses j (get_or par j root) r q.0 s q.1 m) s) w p)
        (eq-or-lt_of_le l)
  ]

behind_drop : {par : List ℕ} {k : ℕ} {l : List ℕ} → Behind par k l → (q : ℕ) → q < length l → Behind par k (get_or l q 0 ∷ drop (q + 1) l)
behind_drop last q h = absurd (omega arith)
behind_drop (next {x = x} f b) zero h = next {x = x} f b
behind_drop (next f b) (suc q) h = let e : suc q + 1 ≡ suc (q + 1) = omega arith in rw e (behind_drop b q (omega arith))

-- ---- L where it lies
module _ {n room : ℕ} {p i : List ℕ} {v : List Float} {up ui lp li : List ℕ} (S : Served n p i v up ui lp li room) where
  abbrev C : List (List ℕ)
  C = columns (pattern n n p i)

  pub upward : {j k : ℕ} → In (upper C) j k → (j ≤ k) × (k < n)
  upward m = let f = fill_upper C (filled C (columns_fit S.valid.pattern) m) in (f.0, omega (arith, f.1, columns_long S.valid.pattern))

  module _ {j : ℕ} (h : j < n) where
    abbrev lo : ℕ
    lo = get_or lp j 0

    abbrev hi : ℕ
    hi = get_or lp (j + 1) 0

    in_ls : j < length (lower C)
    in_ls = omega (arith, S.l_long)

    size : hi ≡ lo + length (get_or (lower C) j [])
    size = laid-size S.l_laid in_ls refl refl

    row_at : (z : ℕ) → lo ≤ z → z < hi → get_or li z 0 ≡ get_or (get_or (lower C) j []) (z - lo) 0
    row_at z a b = let e : lo + (z - lo) ≡ z = omega arith in (rw e at (sym (get_d_part lo hi li (z - lo) 0 (omega arith)))) ∙
        ap (λ (l : List ℕ). get_or l (z - lo) 0) (S.l_laid.column j in_ls)

  pub lies : Lies n (entries (upper C)) (upper C) lp li
  unfolding entries
  lies = record {
    small = S.valid.pattern.cols;
    few = S.few;
    lp_long = omega (arith, S.l_laid.pointed.long, S.l_long);
    in_li = omega (arith, S.l_laid.inside, S.promised.counts);
    start = S.l_laid.pointed.at 0 (omega arith);
    climb = λ j h. laid_order S.l_laid (in_ls h) refl refl;
    end = S.l_laid.pointed.at n (omega (arith, S.l_long)) ∙ ap entries (take_all n (lower C) (omega (arith, S.l_long))) ∙ S.promised.counts;
    rise = λ j y z h a b c.
        rw (row_at h y a (omega arith), row_at h z (omega arith) c) (rises-apart (get_or (lower C) j []) (rising_rises (S.promised.rise j))
        (y - get_or lp j 0) (z - get_or lp j 0) (omega arith) (omega (arith, size h)));
    entry = λ j z h a b. (S.promised.across j (get_or li z 0)).0
        (rw (row_at h z a b) (member_at (get_or (lower C) j []) (z - get_or lp j 0) (omega (arith, size h))));
    place = λ j k m.
        let u = upward m in
        let h : j < n = omega arith in
        let s = spot ((S.promised.across j k).1 m) in
        record {
          at = get_or lp j 0 + s.at;
          from = omega arith;
          to = omega (arith, size h, s.inside);
          is = row_at h (get_or lp j 0 + s.at) (omega arith) (omega (arith, size h, s.inside)) ∙
              ap (λ (z : ℕ). get_or (get_or (lower C) j []) z 0) {x = get_or lp j 0 + s.at - get_or lp j 0} {y = s.at} (omega arith) ∙ s.is;
        };
    upward = λ j k m. upward m;
    once = S.promised.once;
    behind = λ k q r h m g o.
        behind_head (tree C) (upper C) k r o (λ j m. S.promised.parent j (omega (arith, upward m, columns_long S.valid.pattern)))
        S.promised.closed.crosses r (get_or (get_or (upper C) k []) q 0) (omega arith) (behind_drop (S.promised.order k) q h) m g;
  }

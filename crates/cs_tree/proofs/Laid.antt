-- Columns laid one behind the other: where each starts, what stands at each place, and the transpose as the entries sorted by
-- their rows. Assumes nothing.
use mathlib.Core.Path.{◌≡◌, refl, sym, ap, ◌∙◌}
use mathlib.Core.Bool.{cond}
use mathlib.Core.List.Memᴰ
use mathlib.Core.List.{List, [], ◌∷◌, ◌++◌, flatten, Memᴰ}
use mathlib.Core.Logic.{inl, inr}
use Prim.Native.Nat.{ℕ, zero, suc, ◌+◌, ◌≤◌, ◌<◌, ◌%◌, ◌^◌}
use native.Mathlib.Nat.{add-zero}
use native.Mathlib.Numerals.{add-one}
use native.Mathlib.Omega.{arith}
use native.Mathlib.Decide.{ℕ_discrete}
use lib.Dec.{eqb}
use lib.ListN.{length, get_or, take, replicate, length-append, length-replicate, get_or-replicate, get_or-append}
use lib.Seq.{get_or-append-add, take-suc}
use borrow.Author.Tests.{eq-eqb, ne_eqb}
use Rattle.lists.specs.Keys.{of_key, by_key}
use Rattle.lists.specs.Order.{Once, no_more, one_more}
use Rattle.lists.specs.Sums.{sums}
use Rattle.lists.specs.Tables.{from, table}
use Rattle.lists.proofs.Members.{listed-or-not}
use Rattle.lists.proofs.Positions.{flatten_last}
use Rattle.lists.proofs.Tables.{length-table, get_or-table, is-table}
use Rattle.cs_tree.specs.Pattern.{starts, entries, across, transposed}
use Rattle.cs_tree.specs.Steps.{lengths, numbers}
use Rattle.cs_tree.proofs.Count.{pointer_at}

-- ---- how many entries
pub length-laid : (us : List (List ℕ)) → length (flatten us) ≡ entries us
unfolding flatten entries
length-laid [] = refl
length-laid (c ∷ cs) = omega (arith, length-append c (flatten cs), length-laid cs)

pub entries-append : (us vs : List (List ℕ)) → entries (us ++ vs) ≡ entries us + entries vs
unfolding entries
entries-append [] vs = omega arith
entries-append (c ∷ cs) vs = omega (arith, entries-append cs vs)

-- one column more
pub entries-more : (us : List (List ℕ)) (k : ℕ) → k < length us → entries (take (k + 1) us) ≡ entries (take k us) + length (get_or us k [])
unfolding entries
entries-more us k h = rw (add-one, take-suc us k [] h) (omega (arith, entries-append (take k us) (get_or us k [] ∷ [])))

pub entries-part : (us : List (List ℕ)) (k : ℕ) → entries (take k us) ≤ entries us
unfolding entries
entries-part us zero = omega arith
entries-part [] (suc k) = omega arith
entries-part (c ∷ cs) (suc k) = omega (arith, entries-part cs k)

-- ---- pointers
pub start-at : (us : List (List ℕ)) (k : ℕ) → k ≤ length us → get_or (starts 0 us) k 0 ≡ entries (take k us)
start-at us k h = omega (arith, pointer_at 0 k us h)

-- as running sums, where they fit
starts_from : (s : ℕ) (us : List (List ℕ)) → s + entries us < 2 ^ 32 → sums s (lengths us ++ (0 ∷ [])) ≡ starts s us
unfolding sums lengths starts entries
starts_from s [] h = refl
starts_from s (c ∷ cs) h =
    let e : (s + length c) % 2 ^ 32 ≡ s + length c = omega arith in
    ap (λ (t : List ℕ). s ∷ t) (rw e (starts_from (s + length c) cs (omega arith)))

pub sums-starts : (us : List (List ℕ)) → entries us < 2 ^ 32 → sums 0 (lengths us ++ (0 ∷ [])) ≡ starts 0 us
sums-starts us h = starts_from 0 us (omega arith)

pub length-lengths : (us : List (List ℕ)) → length (lengths us) ≡ length us
unfolding lengths
length-lengths [] = refl
length-lengths (c ∷ cs) = ap suc (length-lengths cs)

pub lengths-at : (us : List (List ℕ)) (k : ℕ) → get_or (lengths us) k 0 ≡ length (get_or us k [])
unfolding lengths
lengths-at [] k = refl
lengths-at (c ∷ cs) zero = refl
lengths-at (c ∷ cs) (suc k) = lengths-at cs k

-- ---- what stands at the q-th place of column k
pub laid-at : (us : List (List ℕ)) (k q : ℕ) → q < length (get_or us k []) → get_or (flatten us) (entries (take k us) + q) 0
    ≡ get_or (get_or us k []) q 0
unfolding flatten entries
laid-at [] k q h = absurd (omega arith)
laid-at (c ∷ cs) zero q h = let e : 0 + q ≡ q = omega arith in rw e (get_or-append c (flatten cs) 0 q h)
laid-at (c ∷ cs) (suc k) q h =
    let e : length c + entries (take k cs) + q ≡ length c + (entries (take k cs) + q) = omega arith in
    rw e (get_or-append-add c (flatten cs) (entries (take k cs) + q) 0 ∙ laid-at cs k q h)

pub numbered_at : (b : ℕ) (us : List (List ℕ)) (k q : ℕ) → q < length (get_or us k []) → get_or (numbers b us) (entries (take k us) + q) 0 ≡ b + k
unfolding numbers entries
numbered_at b [] k q h = absurd (omega arith)
numbered_at b (c ∷ cs) zero q h =
    let e : 0 + q ≡ q = omega arith in
    rw (e, get_or-append (replicate (length c) b) (numbers (suc b) cs) 0 q (rw length-replicate h), get_or-replicate (length c) q b 0 h) (omega arith)
numbered_at b (c ∷ cs) (suc k) q h =
    let e : length c + entries (take k cs) + q ≡ length (replicate (length c) b) + (entries (take k cs) + q) =
    omega (arith, length-replicate (length c) b) in
    rw e (get_or-append-add (replicate (length c) b) (numbers (suc b) cs) (entries (take k cs) + q) 0 ∙ numbered_at (suc b) cs k q h ∙
    (let z : suc b + k ≡ b + suc k = omega arith in z))

pub length-numbers : (b : ℕ) (us : List (List ℕ)) → length (numbers b us) ≡ entries us
unfolding numbers entries
length-numbers b [] = refl
length-numbers b (c ∷ cs) = omega (
  arith,
  length-append (replicate (length c) b) (numbers (suc b) cs),
  length-replicate (length c) b,
  length-numbers (suc b) cs,
)

-- ---- the transpose: the columns that hold row j, found entry by entry
key_skip : (j b : ℕ) (c : List ℕ) (ks xs : List ℕ) → ¬ Memᴰ j c → of_key j (c ++ ks) (replicate (length c) b ++ xs) ≡ of_key j ks xs
unfolding of_key
key_skip j b [] ks xs n = refl
key_skip j b (x ∷ c) ks xs n = rw (ne_eqb x j (λ e. n (Memᴰ.head (sym e)))) (key_skip j b c ks xs (λ m. n (Memᴰ.tail m)))

key_hit : (j b : ℕ) {c : List ℕ} (ks xs : List ℕ) → Once c → Memᴰ j c → of_key j (c ++ ks) (replicate (length c) b ++ xs) ≡ b ∷ of_key j ks xs
unfolding of_key
key_hit j b ks xs no_more m = absurd (Memᴰ.not-nil m)
key_hit j b ks xs (one_more {x = x} {xs = c} n o) m = go (ℕ_discrete x j) m (key_hit j b ks xs o)
  where
    go : Dec (x ≡ j) → Memᴰ j (x ∷ c) → (Memᴰ j c → of_key j (c ++ ks) (replicate (length c) b ++ xs) ≡ b ∷ of_key j ks xs)
        → cond (eqb x j) (b ∷ of_key j (c ++ ks) (replicate (length c) b ++ xs)) (of_key j (c ++ ks) (replicate (length c) b ++ xs))
        ≡ b ∷ of_key j ks xs
    go (yes e) t ih = rw (eq-eqb x j e) (ap (λ (l : List ℕ). b ∷ l) (key_skip j b c ks xs (rw e at n)))
    go (no d) t ih = rw (ne_eqb x j d) (ih (after t))
      where
        after : Memᴰ j (x ∷ c) → Memᴰ j c
        after t = elim (Memᴰ.cases_cons t) [ inl e ↦ absurd (d (sym e)) | inr u ↦ u ]

pub across-keys : (j b : ℕ) (us : List (List ℕ)) → ((k : ℕ) → Once (get_or us k [])) → across j b us ≡ of_key j (flatten us) (numbers b us)
unfolding across flatten numbers of_key
across-keys j b [] o = refl
across-keys j b (c ∷ cs) o = elim (listed-or-not j c) [
  | inl q ↦ rw (q.0, across) (ap (λ (l : List ℕ). b ∷ l) (across-keys j (suc b) cs (λ k. o (suc k))) ∙
      sym (key_hit j b (flatten cs) (numbers (suc b) cs) (o 0) q.1))
  | inr q ↦ rw (q.0, across) (across-keys j (suc b) cs (λ k. o (suc k)) ∙ sym (key_skip j b c (flatten cs) (numbers (suc b) cs) q.1))
]

-- ---- tables of columns
module _ (f : ℕ → List ℕ) where
  from_more : (b n : ℕ) → from f b (suc n) ≡ from f b n ++ (f (b + n) ∷ [])
  unfolding from
  from_more b zero = rw add-zero
  from_more b (suc n) = let e : suc b + n ≡ b + suc n = omega arith in
      ap (λ (l : List (List ℕ)). f b ∷ l) (from_more (suc b) n ∙ ap (λ (x : ℕ). from f (suc b) n ++ (f x ∷ [])) e)

  table_more : (n : ℕ) → table (suc n) f ≡ table n f ++ (f n ∷ [])
  table_more n = let e : 0 + n ≡ n = omega arith in rw e at (from_more 0 n)

  from-take : (b n k : ℕ) → k ≤ n → take k (from f b n) ≡ from f b k
  unfolding from
  from-take b n zero h = refl
  from-take b zero (suc k) h = absurd (omega arith)
  from-take b (suc n) (suc k) h = ap (λ (l : List (List ℕ)). f b ∷ l) (from-take (suc b) n k (omega arith))

pub flatten_keys : (ks xs : List ℕ) (n : ℕ) → flatten (table n (λ j. of_key j ks xs)) ≡ by_key n ks xs
unfolding by_key flatten from
flatten_keys ks xs zero = refl
flatten_keys ks xs (suc n) = ap flatten (table_more (λ j. of_key j ks xs) n) ∙ flatten_last (table n (λ j. of_key j ks xs)) (of_key n ks xs) ∙
    ap (λ (l : List ℕ). l ++ of_key n ks xs) (flatten_keys ks xs n)

module _ (us : List (List ℕ)) (o : (k : ℕ) → Once (get_or us k [])) where
  abbrev ks : List ℕ
  ks = flatten us

  abbrev xs : List ℕ
  xs = numbers 0 us

  pub transposed-keys : transposed us ≡ table (length us) (λ j. of_key j ks xs)
  unfolding transposed
  transposed-keys =
      is-table [] (length us) (λ j. of_key j ks xs) (table (length us) (λ j. across j 0 us)) (length-table (length us) (λ j. across j 0 us))
      (λ k l. get_or-table (length us) (λ j. across j 0 us) k [] l ∙ across-keys k 0 us o)

  pub length-transposed : length (transposed us) ≡ length us
  length-transposed = ap length transposed-keys ∙ length-table (length us) (λ j. of_key j ks xs)

  pub laid-transposed : flatten (transposed us) ≡ by_key (length us) ks xs
  laid-transposed = ap flatten transposed-keys ∙ flatten_keys ks xs (length us)

  pub transposed-start : (k : ℕ) → k ≤ length us → get_or (starts 0 (transposed us)) k 0 ≡ length (by_key k ks xs)
  transposed-start k h =
      start-at (transposed us) k (rw length-transposed h)
      ∙ ap (λ (l : List (List ℕ)). entries (take k l)) transposed-keys
      ∙ ap entries (from-take (λ j. of_key j ks xs) 0 (length us) k h)
      ∙ sym (length-laid (table k (λ j. of_key j ks xs)))
      ∙ ap length (flatten_keys ks xs k)

  pub transposed-length : (j : ℕ) → j < length us → get_or (lengths (transposed us)) j 0 ≡ length (of_key j ks xs)
  transposed-length j h = lengths-at (transposed us) j ∙ ap (λ (l : List (List ℕ)). length (get_or l j [])) transposed-keys ∙
      ap length (get_or-table (length us) (λ j. of_key j ks xs) j [] h)

-- Where U's entries stand by their rows, which lays out L: one column, and column by column, with L looked at place by place.
-- Assumes nothing.
use mathlib.Core.Path.{◌≡◌, refl, sym, ◌∙◌}
use mathlib.Core.List.{List, [], flatten}
use Prim.Native.Nat.{ℕ, ◌+◌, ◌-◌, ◌≤◌, ◌<◌}
use native.Mathlib.Omega.{arith}
use lib.ListN.{length, get_or, set, take}
use lib.Seq.{set-get_or}
use Rattle.lists.specs.Keys.{by_key}
use Rattle.lists.specs.Parts.{part}
use Rattle.lists.proofs.Keys.{keys-whole}
use Rattle.lists.proofs.Placing.{next_holds}
use Rattle.lists.proofs.Scattering.{Scattering, scattering_start, scattering_turn, at_in, at-in_out}
use Rattle.cs_tree.specs.Pattern.{entries}
use Rattle.cs_tree.specs.Steps.{numbers, Spread, Put, Spreads}
use Rattle.cs_tree.proofs.Between.{between_start, between-end, between-size, between-last, between_long, between_keyed, between_numbered}
use Rattle.cs_tree.proofs.Laid.{length-laid}

-- ---- one column: `lower_column`
-- for whatever the rows stand among
abbrev pub Going : (k : ℕ) (rows next₀ li₀ next li : List ℕ) (q : ℕ) → Type 0
Going k rows next₀ li₀ next li q = (s : Spread k rows next₀ li₀) → Put k rows next₀ li₀ s next li q

module _ {k : ℕ} {rows next₀ li₀ next li : List ℕ} {q : ℕ} (v : Going k rows next₀ li₀ next li q) (h : q < length rows) {j : ℕ}
    (e : j ≡ get_or rows q 0) where
  module _ (s : Spread k rows next₀ li₀) where
    inside : s.at + q < length s.keys
    inside = omega (arith, s.end)

    row : get_or s.keys (s.at + q) 0 ≡ j
    row = s.keyed q h ∙ sym e

    pub going_place : get_or next j 0 < length li
    going_place = rw row at (at_in (v s) inside)

    pub going_place-in : get_or next j 0 < length (by_key s.n s.keys s.xs)
    going_place-in = rw row at (at-in_out (v s) inside)

    turned : Scattering 0 s.n s.keys s.xs s.next₀ s.li₀ (set next j (get_or next j 0 + 1)) (set li (get_or next j 0) k) (s.at + (q + 1))
    turned =
        let z : s.at + (q + 1) ≡ s.at + q + 1 = omega arith in
        rw (z, ← s.numbered q h, ← row) (scattering_turn (v s) inside)

  -- what belongs there is k
  pub going_holds : (s : Spread k rows next₀ li₀) → get_or (by_key s.n s.keys s.xs) (get_or next j 0) 0 ≡ k
  going_holds s = (rw (row s) at (next_holds (v s) (inside s))) ∙ s.numbered q h

  -- where what stands there is what would be put
  pub going_same : {t : ℕ} → t ≡ get_or next j 0 → get_or li t 0 ≡ k → Going k rows next₀ li₀ (set next j (get_or next j 0 + 1)) li (q + 1)
  going_same {t = t} e f s =
      let z : set li (get_or next j 0) k ≡ li = rw (← e, ← f) (set-get_or li t 0) in
      rw z at (turned s)

-- ---- column by column: `lower_columns`
abbrev pub Columns : (n : ℕ) (up ui next₀ li₀ next li : List ℕ) (k : ℕ) → Type 0
Columns n up ui next₀ li₀ next li k = (s : Spreads n up ui next₀ li₀) → Scattering 0 n (flatten s.us) (numbers 0 s.us) next₀ li₀ next li
    (entries (take k s.us))

pub columns-start : {n : ℕ} {up ui next li : List ℕ} → Columns n up ui next li next li 0
unfolding entries
columns-start s = scattering_start s.ready

module _ {n : ℕ} {up ui next₀ li₀ : List ℕ} {k : ℕ} (s : Spreads n up ui next₀ li₀) (h : k < n) where
  k_in : k < length s.us
  k_in = rw s.count h

  module _ {b f : ℕ} (x : b ≡ get_or up k 0) (y : f ≡ get_or up (k + 1) 0) where
    start_is : b ≡ entries (take k s.us)
    start_is = between_start s.pointed k_in x y

    end_is : f ≡ entries (take (k + 1) s.us)
    end_is = between-end s.pointed k_in x y

    size : f ≡ b + length (get_or s.us k [])
    size = between-size s.pointed k_in x y

    last : f ≤ entries s.us
    last = between-last s.pointed k_in x y

    rows_long : length (part b f ui) ≡ f - b
    rows_long = between_long s.pointed k_in x y ui s.room s.laid

    pub spreads_column : {next li : List ℕ} → Columns n up ui next₀ li₀ next li k → Spread k (part b f ui) next li
    spreads_column {next = next} {li = li} v =
        record {
          n = n;
          keys = flatten s.us;
          xs = numbers 0 s.us;
          next₀ = next₀;
          li₀ = li₀;
          at = entries (take k s.us);
          is = v s;
          few = omega (arith, keys-whole n (flatten s.us) (numbers 0 s.us) s.ready.alike s.ready.named, length-laid s.us, s.few);
          end = omega (arith, rows_long, size, start_is, last, length-laid s.us, end_is);
          keyed = between_keyed s.pointed k_in x y ui s.room s.laid;
          numbered = between_numbered s.pointed k_in x y ui s.room s.laid;
        }

pub columns-turn : {n : ℕ} {up ui next₀ li₀ next li next1 li1 : List ℕ} {k b f : ℕ} → Columns n up ui next₀ li₀ next li k → k < n →
    b ≡ get_or up k 0 → f ≡ get_or up (k + 1) 0
    → ((s : Spread k (part b f ui) next li) → Put k (part b f ui) next li s next1 li1 (length (part b f ui))) →
    Columns n up ui next₀ li₀ next1 li1 (k + 1)
unfolding spreads_column
columns-turn {ui = ui} {k = k} {b = b} {f = f} v h x y w s =
    let c = spreads_column s h x y v in
    let z : entries (take k s.us) + length (part b f ui) ≡ entries (take (k + 1) s.us) =
    omega (arith, rows_long s h x y, size s h x y, end_is s h x y, start_is s h x y) in
    rw z at (w c)

-- a column's entries stand among all of U's
pub column_among : {n : ℕ} {up ui next₀ li₀ next li : List ℕ} {k b f : ℕ} (s : Spreads n up ui next₀ li₀) (h : k < n) (x : b ≡ get_or up k 0)
    (y : f ≡ get_or up (k + 1) 0) (v : Columns n up ui next₀ li₀ next li k)
    → let c = spreads_column s h x y v in by_key c.n c.keys c.xs ≡ by_key n (flatten s.us) (numbers 0 s.us)
unfolding spreads_column
column_among s h x y v = refl

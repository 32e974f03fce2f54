-- `lower_column` meets its contract. Assumes nothing.
use Rattle.cs_tree.proofs.Falling.{putting_some, putting_place, putting_turn}
use Rattle.std.proofs.Common.{◌≡◌, ℕ, ◌+◌, ◌-◌, ◌<◌, List, [], ◌∷◌, ◌++◌, length, get_or, take, refl, sym, ap, ◌∙◌, arith, length-append}
use Rattle.std.proofs.Math.Seq.{get_or-append_seam}
use Rattle.std.proofs.lemmas.List.{get_or-take, take_at}
use lib.Seq.{take-take}
use Rattle.cs_pattern.proofs.lower.lower_column.Goals as goal

-- of the rows that were left the last, x, is taken
record Taken (rows left less : List ℕ) (x : ℕ) : Type 0 where
  some : 0 < length left
  long : length less ≡ length left - 1
  is : x ≡ get_or rows (length left - 1) 0
  front : less ≡ take (length less) rows

taken : {rows left less : List ℕ} {x : ℕ} → left ≡ less ++ x ∷ [] → left ≡ take (length left) rows → Taken rows left less x
taken {rows = rows} {left = left} {less = less} {x = x} e f =
    let n : length left ≡ length less + 1 = omega (arith, ap length e, length-append less (x ∷ [])) in
    let m : length less ≡ length left - 1 = omega arith in
    let g : less ++ x ∷ [] ≡ take (length left) rows = sym e ∙ f in
    record {
      some = omega arith;
      long = m;
      is = rw (← m) (sym (get_or-append_seam less x [] 0) ∙ ap (λ (l : List ℕ). get_or l (length less) 0) g ∙
          get_or-take (length left) rows (length less) 0 (omega arith));
      front = sym (take_at less (x ∷ []) (length less) refl) ∙ ap (take (length less)) g ∙
          take-take (length less) (length left) rows (omega arith);
    }

pub overflow_sub-t : goal.overflow_sub-t
overflow_sub-t c =
    let d = taken c.in-Some.ensures.steps c.loop-row.invariant.0 in
    putting_some c.loop-row.invariant.2 d.some c.loop-row.invariant.1 (c.wide-j.ensures.0 ∙ d.is) c.requires

pub bounds-li-wide : goal.bounds-li-wide
bounds-li-wide c =
    let d = taken c.in-Some.ensures.steps c.loop-row.invariant.0 in
    rw c.wide.ensures.0 (putting_place c.loop-row.invariant.2 d.some c.loop-row.invariant.1 (c.wide-j.ensures.0 ∙ d.is) c.requires)

pub loop-row-preserved : goal.loop-row-preserved
loop-row-preserved c =
    let d = taken c.in-Some.ensures.steps c.loop-row.invariant.0 in (
      d.front,
      omega (arith, d.long, c.loop-row.invariant.1),
      rw d.long (putting_turn c.loop-row.invariant.2 d.some c.loop-row.invariant.1 (c.wide-j.ensures.0 ∙ d.is) c.wide.ensures.0),
    )

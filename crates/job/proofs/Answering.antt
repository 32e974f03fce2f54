-- The stages of a job, one behind the other: what was read stands in the fronts of the arrays, and what is written is the file's
-- answer. Assumes nothing.
use mathlib.Core.Logic.{⊎_elim}
use mathlib.Core.Path.{◌≡◌, refl, sym, ap, ◌∙◌}
use mathlib.Core.List.{List, [], ◌++◌}
use Prim.Native.Nat.{ℕ, zero, suc, ◌≤◌}
use native.Mathlib.Omega.{arith}
use lib.Ieee.{Float}
use lib.ListN.{length, take, drop, length-append}
use lib.Seq.{take_at}
use Rattle.std.specs.Prelude.{Result as StdResult, Ok, Err}
use Rattle.lists.specs.Calls.{onto}
use Rattle.lists.specs.Refusals.{number_of}
use Rattle.lists.specs.declared.refusal.Refusal.{Refusal}
use Rattle.lists.proofs.Refusals.{refusal-some}
use Rattle.lists.proofs.Bools.{eq-or-ne}
use Rattle.lists.proofs.Places.{take-onto}
use Rattle.lists.specs.Folds.{turns, falls}
use Rattle.cs_matrix.specs.Matrix.{Matrix}
use Rattle.cs_conversion.specs.Assembly.{triplets, assembled}
use Rattle.cs_solve.specs.declared.Solved.{Solved}
use Rattle.cs_solve.specs.Solve.{forward_column, forward}
use Rattle.cs_solve.specs.TrSolve.{transposed_column, transposed}
use Rattle.cs_solve.proofs.Steps.{length-forward_column, length-transposed_at}
use Rattle.job_file.specs.declared.read.Fault.{Fault}
use Rattle.job_file.specs.declared.read.Sound.{Sound}
use Rattle.job_file.specs.Faults.{Job}
use Rattle.job_file.specs.Reading.{Outcome, read_file}
use Rattle.job_file.specs.Arrays.{Arrays, laid, Said, said, answered as read_as, Within}
use Rattle.job_file.specs.Told.{byte}
use Rattle.job_file.proofs.Longest.{past_longest}
use Rattle.job_answer.specs.Lines.{Line, text, lines}
use Rattle.job_answer.specs.Answer.{answer, leaves}
use Rattle.job_answer.proofs.Writing.{text_long}
use Rattle.job.specs.Run.{Result, after, factoring, lower_matrix, solved, run, triplets_of, worked}
use Rattle.job.specs.Output.{result_of, written, output}
use Rattle.job.proofs.Solving.{Owed, after_go, after_stop}

-- ---- the lines
lines-refused : (r k : ℕ) (x y : List Float) → (r ≡ 0 → ⊥) → lines r k x ≡ lines r k y
unfolding lines
lines-refused zero k x y n = absurd (n refl)
lines-refused (suc r) k x y n = refl

lines_owed : (s : Result) (r : Solved) (b : List Float) → Owed s r b → lines r.number r.column b ≡ lines s.number s.column s.x
lines_owed s r b o =
    ⊎_elim (λ (z : r.number ≡ 0). ap (lines r.number r.column) (o.1 z)) (λ (n : r.number ≡ 0 → ⊥). lines-refused r.number r.column b s.x n)
    (eq-or-ne r.number 0)
    ∙ ap (λ (a : Solved). lines a.number a.column s.x) o.0

-- ---- what the job owes of the file s
abbrev pub Answers : List ℕ → List ℕ → StdResult ℕ Refusal → List ℕ → Type 0
Answers s old r new = (r ≡ answer (output s) old) × (new ≡ leaves (output s) old) × (length (output s) ≤ 3584) ×
    ((m : ℕ) → 40479 ≤ m → output (take m s) ≡ output s)

-- ---- how long an answer is
after_long : (r k m : ℕ) (next : Result) → length next.x ≤ m → length (after r k next).x ≤ m
unfolding after
after_long zero k m next h = h
after_long (suc r) k m next h = omega arith

falls_long : (f : ℕ → List Float → List Float) → ((j : ℕ) (b : List Float) → length (f j b) ≡ length b) → (n : ℕ) (b : List Float) →
    length (falls n f b) ≡ length b
unfolding falls
falls_long f h zero b = refl
falls_long f h (suc n) b = falls_long f h n (f n b) ∙ h n b

turns_long : (f : ℕ → List Float → List Float) → ((j : ℕ) (b : List Float) → length (f j b) ≡ length b) → (n : ℕ) (b : List Float) →
    length (turns n f b) ≡ length b
unfolding turns
turns_long f h zero b = refl
turns_long f h (suc n) b = h n (turns n f b) ∙ turns_long f h n b

solution_long : (l : Matrix) (b : List Float) → length (transposed l (forward l b)) ≡ length b
unfolding transposed forward transposed_column
solution_long l b =
    falls_long (transposed_column l) (λ j y. length-transposed_at j _ _ _ y) l.pattern.ncols (turns l.pattern.ncols (forward_column l) b)
    ∙ turns_long (forward_column l) (length-forward_column l) l.pattern.ncols b

output_long : (s : List ℕ) → Within (read_file s).job → length (output s) ≤ 3584
unfolding output written result_of worked run solved
output_long s v =
    let o = read_file s in
    let b = o.job.right in
    let r = result_of o in
    let h : length r.x ≤ 256 =
    after_long o.number 0 256 _
    (after_long _ 0 256 _ (after_long _ _ 256 _
    (after_long _ _ 256 _ (after_long _ _ 256 _
    (omega (
      arith,
      solution_long (lower_matrix (assembled (triplets_of o.job)) (factoring o.job.engine (assembled (triplets_of o.job)))) b,
      v.right,
      v.n,
    )))))) in
    text_long r.number r.column 256 r.x h (omega arith)

answers : (s old : List ℕ) (r : StdResult ℕ Refusal) (new : List ℕ) (ls : List Line) → text ls ≡ output s → Within (read_file s).job
    → (r ≡ answer (text ls) old)
    × (new ≡ leaves (text ls) old) → Answers s old r new
unfolding output
answers s old r new ls e v c = (
  c.0 ∙ ap (λ (w : List ℕ). answer w old) e,
  c.1 ∙ ap (λ (w : List ℕ). leaves w old) e,
  output_long s v,
  λ m h. ap (λ (o : Outcome). written (result_of o)) (past_longest s m h),
)

-- a list that was written to the front
front_fits : {A : Type 0} (d g l : List A) (k : ℕ) → l ≡ onto d g → k ≡ length g → (k ≤ length l) × (take k l ≡ g)
unfolding onto
front_fits d g l k e f = (omega (arith, f, ap length e ∙ length-append g (drop (length g) d)), ap (take k) e ∙ take-onto k d g (sym f))

-- ---- refused
module _ (s : List ℕ) (was : Arrays) (f : Fault) (now : Arrays) (c : (said (Err f) ≡ read_as (read_file s)) × (now ≡ laid (read_file s).job was) ×
    Within (read_file s).job) where
  refusal-text : {m : ℕ} (x : List Float) → m ≡ number_of f.refusal → text (lines m 0 x) ≡ output s
  unfolding output written result_of
  refusal-text {m = m} x e =
      let o = read_file s in
      let q : m ≡ o.number = e ∙ ap (λ (y : Said). y.number) c.0 in
      let n : m ≡ 0 → ⊥ = λ z. refusal-some f.refusal (sym e ∙ z) in
      ap text (lines-refused m 0 x [] n ∙ ap (λ (y : ℕ). lines y 0 []) q)
      ∙ sym (ap (λ (y : Result). text (lines y.number y.column y.x))
      (after_stop o.number 0 (worked o.job.engine (triplets_of o.job) o.job.right) (λ h. n (q ∙ h))))

  pub job_refused : {m : ℕ} (x : List Float) (old : List ℕ) (r : StdResult ℕ Refusal) (new : List ℕ) → m ≡ number_of f.refusal
      → (r ≡ answer (text (lines m 0 x)) old) × (new ≡ leaves (text (lines m 0 x)) old) → Answers s old r new
  job_refused {m = m} x old r new e d = answers s old r new (lines m 0 x) (refusal-text x e) c.2 d

-- ---- worked
module _ (s : List ℕ) (was : Arrays) (a : Sound) (now : Arrays) (c : (said (Ok a) ≡ read_as (read_file s)) × (now ≡ laid (read_file s).job was) ×
    Within (read_file s).job) where
  abbrev o : Outcome
  o = read_file s

  abbrev j : Job
  j = (read_file s).job

  -- what was read
  module _ (w : ℕ) (e : w ≡ a.entries) where
    count_is : w ≡ length j.entries.rows
    count_is = e ∙ ap (λ (x : Said). x.head.entries) c.0

    pub rows_are : (w ≤ length now.rows) × (take w now.rows ≡ (read_file s).job.entries.rows)
    unfolding laid
    rows_are = front_fits was.rows j.entries.rows now.rows w (ap (λ (x : Arrays). x.rows) c.1) count_is

    pub columns_are : (w ≤ length now.columns) × (take w now.columns ≡ (read_file s).job.entries.columns)
    unfolding laid
    columns_are = front_fits was.columns j.entries.columns now.columns w (ap (λ (x : Arrays). x.columns) c.1) (count_is ∙ sym c.2.columns)

    pub values_are : (w ≤ length now.values) × (take w now.values ≡ (read_file s).job.entries.values)
    unfolding laid
    values_are = front_fits was.values j.entries.values now.values w (ap (λ (x : Arrays). x.values) c.1) (count_is ∙ sym c.2.values)

  module _ (n : ℕ) (e : n ≡ a.n) where
    n_is : n ≡ j.n
    n_is = e ∙ ap (λ (x : Said). x.head.n) c.0

    pub right_is : (n ≤ length now.right) × (take n now.right ≡ (read_file s).job.right)
    unfolding laid
    right_is = front_fits was.right j.right now.right n (ap (λ (x : Arrays). x.right) c.1) (n_is ∙ sym c.2.right)

  module _ (n w : ℕ) (en : n ≡ a.n) (ew : w ≡ a.entries) {r : Solved} {b1 : List Float}
      (d : Owed (worked (byte a.engine) (triplets n n (take w now.rows) (take w now.columns) (take w now.values)) (take n now.right)) r b1)
      (l : length b1 ≡ length (take n now.right)) where
    triplets_are : triplets n n (take w now.rows) (take w now.columns) (take w now.values) ≡ triplets_of j
    unfolding triplets_of
    triplets_are = λ k. triplets (n_is n en k) (n_is n en k) ((rows_are w ew).1 k) ((columns_are w ew).1 k) ((values_are w ew).1 k)

    worked-is : worked (byte a.engine) (triplets n n (take w now.rows) (take w now.columns) (take w now.values)) (take n now.right) ≡ result_of o
    unfolding result_of
    worked-is =
        (λ k. worked ((c.0 k).head.engine) (triplets_are k) ((right_is n en).1 k))
        ∙ sym (after_go o.number 0 (worked j.engine (triplets_of j) j.right) (sym (ap (λ (x : Said). x.number) c.0)))

    b1_long : length b1 ≡ n
    b1_long = l ∙ ap length (right_is n en).1 ∙ c.2.right ∙ sym (n_is n en)

    solution-text : text (lines r.number r.column (take n (b1 ++ drop n now.right))) ≡ output s
    unfolding output written
    solution-text =
        ap (λ (x : List Float). text (lines r.number r.column x)) (take_at b1 (drop n now.right) n b1_long)
        ∙ ap text (lines_owed _ r b1 d)
        ∙ ap (λ (y : Result). text (lines y.number y.column y.x)) worked-is

    pub job_done : (old : List ℕ) (q : StdResult ℕ Refusal) (new : List ℕ)
        → (q ≡ answer (text (lines r.number r.column (take n (b1 ++ drop n now.right)))) old)
        × (new ≡ leaves (text (lines r.number r.column (take n (b1 ++ drop n now.right)))) old)
        → Answers s old q new
    job_done old q new g = answers s old q new (lines r.number r.column (take n (b1 ++ drop n now.right))) solution-text c.2 g

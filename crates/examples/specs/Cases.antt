-- E1 to E12 of document 01: each case with what the definitions of the public contracts yield and what the paper says. Numbers
-- stand for themselves, a value for its bits, a lent slice for its elements at exit. Assumes nothing.
use Rattle.std.specs.Prelude.{List, [], ◌∷◌, ◌++◌, map, ℕ, ◌+◌, Float, replicate}
use Rattle.std.specs.Float.{binary64}
use Rattle.std.specs.Float.Ieee.{of_bits, to_bits}
use Rattle.lists.specs.Calls.{none, Scratch, scratch, Lent, lent, outputs, leaves}
use Rattle.root.specs.Root.{root_bits}
use Rattle.cs_matrix.specs.Matrix.{Pattern, pattern, Matrix, matrix, Stored, stored, needed, written}
use Rattle.cs_tree.specs.Pattern.{Analysis, analysis, analysed, upper, entries}
use Rattle.cs_pattern.specs.Columns.{columns}
use Rattle.cs_pattern.specs.Analyse.{number as numberOfAnalysis, written as writtenAnalysis}
use Rattle.cs_cholesky.specs.Factor.{Outcome, answer, written as writtenValues}
use Rattle.cs_cholesky.specs.declared.Factored.{Factored}
use Rattle.cs_left.specs.Left.{left, number as numberOfLeft}
use Rattle.cs_up.specs.Up.{up, number as numberOfUp}
use Rattle.cs_solve.specs.Judge.{number as numberOfSolve}
use Rattle.cs_solve.specs.Solve.{forward}
use Rattle.cs_solve.specs.TrSolve.{transposed}
use Rattle.cs_sum.specs.Sum.{sum, number as numberOfSum}
use Rattle.cs_product.specs.Product.{product, needed_two, number as numberOfProduct}

pub record Case : Type 0 where
  pub yields : List ℕ
  pub says : List ℕ

-- ---- slices to lend
abbrev words : ℕ → List ℕ
words n = replicate n 7

abbrev zeros : ℕ → List Float
zeros n = replicate n none

abbrev work : ℕ → Scratch
work n = scratch (words n) (words n) (words n) (zeros n)

abbrev floats : List ℕ → List Float
floats ns = map (of_bits binary64) ns

abbrev bits : List Float → List ℕ
bits xs = map (to_bits binary64) xs

-- ---- what the calls promise: the number, then each output
-- the analysis of n columns, with room for t entries of U
abbrev analyses : ℕ → ℕ → Pattern → List ℕ
analyses n t a =
    let old = lent (analysis (words n) (words (n + 1)) (words t) (words (n + 1)) (words t)) (work (n + 1)) in
    let r = numberOfAnalysis a old in
    let out = (leaves r (needed a) (writtenAnalysis (analysed (columns a)) old.out) old).out in
    r ∷ (out.tree ++ (out.up ++ (out.ui ++ (out.lp ++ out.li))))

-- a factoring's answer and L's values
abbrev answers : Factored → List ℕ
answers r = r.number ∷ r.column ∷ to_bits binary64 r.pivot ∷ []

abbrev factors : ℕ → ℕ → Matrix → (Matrix → Analysis → Lent (List Float) → ℕ) → (Matrix → Outcome) → List ℕ
factors n t a number f =
    let old = lent (zeros t) (work (n + 1)) in
    let r = answer (number a (analysed (columns a.pattern)) old) (f a) in
    answers r ++ bits (leaves r.number (needed a.pattern) (writtenValues (entries (upper (columns a.pattern))) (f a) old.out) old).out

-- a dense solve's number, and the right side
abbrev solves : Matrix → List Float → (Matrix → List Float → List Float) → List ℕ
solves l b f = let r = numberOfSolve l b in r ∷ bits (outputs r (f l b) b)

-- a matrix that a call wrote
abbrev stores : ℕ → Stored → List ℕ
stores r out = r ∷ (out.p ++ (out.i ++ bits out.v))

abbrev room : ℕ → ℕ → Stored
room n t = stored (words (n + 1)) (words t) (zeros t)

-- ---- the matrices of the paper
abbrev q : Matrix
q =
    matrix 4 4 (0 ∷ 3 ∷ 5 ∷ 7 ∷ 10 ∷ []) (0 ∷ 2 ∷ 3 ∷ 1 ∷ 3 ∷ 0 ∷ 2 ∷ 0 ∷ 1 ∷ 3 ∷ [])
    (floats
    (0x4010_0000_0000_0000 ∷ 0x4000_0000_0000_0000 ∷ 0x4000_0000_0000_0000 ∷ 0x4022_0000_0000_0000 ∷ 0x4008_0000_0000_0000 ∷ 0x4000_0000_0000_0000 ∷ 0x4014_0000_0000_0000
    ∷ 0x4000_0000_0000_0000 ∷ 0x4008_0000_0000_0000 ∷ 0x4019_0000_0000_0000 ∷ []))

-- L of E3 and E4: 2 1 1, 3 1, 2 -0.5, 2
abbrev values : List ℕ
values =
    0x4000_0000_0000_0000 ∷ 0x3FF0_0000_0000_0000 ∷ 0x3FF0_0000_0000_0000 ∷ 0x4008_0000_0000_0000 ∷ 0x3FF0_0000_0000_0000 ∷ 0x4000_0000_0000_0000 ∷ 0xBFE0_0000_0000_0000
    ∷ 0x4000_0000_0000_0000 ∷ []

abbrev l : Matrix
l = matrix 4 4 (0 ∷ 3 ∷ 5 ∷ 7 ∷ 8 ∷ []) (0 ∷ 2 ∷ 3 ∷ 1 ∷ 3 ∷ 2 ∷ 3 ∷ 3 ∷ []) (floats values)

-- the 1 by 1 matrices 2, and of no entry
abbrev two : Matrix
two = matrix 1 1 (0 ∷ 1 ∷ []) (0 ∷ []) (floats (0x4000_0000_0000_0000 ∷ []))

abbrev bare : Matrix
bare = matrix 1 1 (0 ∷ 0 ∷ []) [] []

-- 2 by 2 storing (0,0), (0,1), and storing (0,0), (1,0), (1,1)
abbrev above : Pattern
above = pattern 2 2 (0 ∷ 1 ∷ 2 ∷ []) (0 ∷ 0 ∷ [])

abbrev below : Matrix
below = matrix 2 2 (0 ∷ 2 ∷ 3 ∷ []) (0 ∷ 1 ∷ 1 ∷ []) (floats (0x4000_0000_0000_0000 ∷ 0x3FF0_0000_0000_0000 ∷ 0x4000_0000_0000_0000 ∷ []))

-- row [1 1], column [1, -1]; [1] and [-1]
abbrev row : Matrix
row = matrix 1 2 (0 ∷ 1 ∷ 2 ∷ []) (0 ∷ 0 ∷ []) (floats (0x3FF0_0000_0000_0000 ∷ 0x3FF0_0000_0000_0000 ∷ []))

abbrev column : Matrix
column = matrix 2 1 (0 ∷ 2 ∷ []) (0 ∷ 1 ∷ []) (floats (0x3FF0_0000_0000_0000 ∷ 0xBFF0_0000_0000_0000 ∷ []))

abbrev single : ℕ → Matrix
single v = matrix 1 1 (0 ∷ 1 ∷ []) (0 ∷ []) (floats (v ∷ []))

abbrev multiplies : ℕ → Matrix → Matrix → Stored → List ℕ
multiplies n a b out =
    let old = lent out (work n) in
    let r = numberOfProduct a b old in
    stores r (leaves r (needed_two a.pattern b.pattern) (written (product a b) old.out) old).out

abbrev adds : Matrix → Matrix → Stored → List ℕ
adds a b old = let r = numberOfSum a b old in stores r (outputs r (written (sum a b) old) old)

unfoldable pub cases : List Case
cases =
    -- E1, E2, E3: the tree; U's pointers and rows; L's
    record {
      yields = analyses 4 8 q.pattern;
      says = 0 ∷ (2 ∷ 3 ∷ 3 ∷ 4294967295 ∷ []) ++ ((0 ∷ 1 ∷ 2 ∷ 4 ∷ 8 ∷ []) ++ ((0 ∷ 1 ∷ 0 ∷ 2 ∷ 1 ∷ 0 ∷ 2 ∷ 3 ∷ []) ++ ((0 ∷ 3 ∷ 5 ∷ 7 ∷ 8 ∷ []) ++ (0 ∷ 2 ∷ 3 ∷ 1 ∷ 3 ∷ 2 ∷ 3 ∷ 3 ∷ []))));
    }
    -- E4, left and up
    ∷ record { yields = factors 4 8 q numberOfLeft left; says = 0 ∷ 0 ∷ 0 ∷ values }
    ∷ record { yields = factors 4 8 q numberOfUp up; says = 0 ∷ 0 ∷ 0 ∷ values }
    -- E5: 2 3 5 4.5 gives 1 1 2 1.75
    ∷ record {
      yields = solves l (floats (0x4000_0000_0000_0000 ∷ 0x4008_0000_0000_0000 ∷ 0x4014_0000_0000_0000 ∷ 0x4012_0000_0000_0000 ∷ [])) forward;
      says = 0 ∷ 0x3FF0_0000_0000_0000 ∷ 0x3FF0_0000_0000_0000 ∷ 0x4000_0000_0000_0000 ∷ 0x3FFC_0000_0000_0000 ∷ [];
    }
    -- E6: 10 5 5 4 gives 2.5 1 3 2
    ∷ record {
      yields = solves l (floats (0x4024_0000_0000_0000 ∷ 0x4014_0000_0000_0000 ∷ 0x4014_0000_0000_0000 ∷ 0x4010_0000_0000_0000 ∷ [])) transposed;
      says = 0 ∷ 0x4004_0000_0000_0000 ∷ 0x3FF0_0000_0000_0000 ∷ 0x4008_0000_0000_0000 ∷ 0x4000_0000_0000_0000 ∷ [];
    }
    -- E7, left and up
    ∷ record { yields = factors 1 1 two numberOfLeft left; says = 0 ∷ 0 ∷ 0 ∷ 0x3FF6_A09E_667F_3BCC ∷ [] }
    ∷ record { yields = factors 1 1 two numberOfUp up; says = 0 ∷ 0 ∷ 0 ∷ 0x3FF6_A09E_667F_3BCD ∷ [] }
    -- E8: the analysis, U empty; left and up
    ∷ record { yields = analyses 1 0 bare.pattern; says = 0 ∷ 4294967295 ∷ 0 ∷ 0 ∷ 0 ∷ 0 ∷ [] }
    ∷ record { yields = factors 1 0 bare numberOfLeft left; says = 11 ∷ 0 ∷ 0 ∷ [] }
    ∷ record { yields = factors 1 0 bare numberOfUp up; says = 11 ∷ 0 ∷ 0 ∷ [] }
    -- E9: U's column 1 is 0 1
    ∷ record { yields = analyses 2 3 above; says = 0 ∷ 1 ∷ 4294967295 ∷ 0 ∷ 1 ∷ 3 ∷ 0 ∷ 0 ∷ 1 ∷ 0 ∷ 2 ∷ 3 ∷ 0 ∷ 1 ∷ 1 ∷ [] }
    -- E10
    ∷ record { yields = factors 2 2 below numberOfLeft left; says = 9 ∷ 0 ∷ 0 ∷ 0 ∷ 0 ∷ [] }
    -- E11: no entry; one entry, +0
    ∷ record { yields = multiplies 3 row column (room 1 0); says = 0 ∷ 0 ∷ 0 ∷ [] }
    ∷ record { yields = adds (single 0x3FF0_0000_0000_0000) (single 0xBFF0_0000_0000_0000) (room 1 1); says = 0 ∷ 0 ∷ 1 ∷ 0 ∷ 0 ∷ [] }
    -- E12
    ∷ record { yields = root_bits 0x0000_0000_0000_0001 ∷ root_bits 0x400F_FFFF_FFFF_FFFF ∷ []; says = 0x1E60_0000_0000_0000 ∷ 0x3FFF_FFFF_FFFF_FFFF ∷ [] }
    ∷ []

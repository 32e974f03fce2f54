-- One proof that all cases agree. Assumes nothing.
use mathlib.Core.List.{flatten, map}
use mathlib.Core.Path.{◌≡◌, refl}
use lib.Ieee.{of_bits, to_bits, eq, lt, add, sub, mul, div, neg}
use Rattle.lists.specs.Calls.{both, lower, cleared, onto, narrow, wiped, outputs, worked, leaves}
use Rattle.lists.specs.Choices.{chosen, some_of, keep}
use Rattle.lists.specs.Entries.{plus_at}
use Rattle.lists.specs.Folds.{every, tally, turns, falls, along, over}
use Rattle.lists.specs.Order.{rises, all_below, lists}
use Rattle.lists.specs.Tables.{from}
use Rattle.cs_matrix.specs.Matrix.{too_large, pointers, column, value_at, columns_rise, judged_pattern, judged, judged_vector, needed, short}
use Rattle.cs_matrix.specs.Matrix.{short_by, written, judged_square, judged_square_matrix}
use Rattle.cs_tree.specs.Pattern.{path, paths, upper_column, upper, across, transposed, lower as cs-tree-Pattern-lower, starts, entries, analysed}
use Rattle.cs_tree.specs.Tree.{root, climb, climbs, tree_to, tree}
use Rattle.cs_pattern.specs.Analyse.{short as cs-pattern-Analyse-short, written as cs-pattern-Analyse-written, number}
use Rattle.cs_pattern.specs.Columns.{columns}
use Rattle.lists.specs.Order.{starts_with}
use Rattle.cs_pattern.specs.Compare.{same, tight, number as cs-pattern-Compare-number}
use Rattle.cs_cholesky.specs.Factor.{factor, judged_factor, answer, written as cs-cholesky-Factor-written}
use Rattle.cs_left.specs.Left.{put_at, add_at, add_column, add_columns, left_x, quotients, left_step, left, stray, strays}
use Rattle.cs_left.specs.Left.{number as cs-left-Left-number}
use Rattle.cs_up.specs.Up.{put_at as cs-up-Up-putAt, sub_at, row_at, rows_at, start_at, up_step, up, number as cs-up-Up-number}
use Rattle.cs_solve.specs.Diagonal.{diagonal, lacking}
use Rattle.cs_solve.specs.Judge.{judged_solve, lacking_columns, number as cs-solve-Judge-number, answer as cs-solve-Judge-answer}
use Rattle.cs_solve.specs.Solve.{lower_at, forward_at, forward_column, forward}
use Rattle.cs_solve.specs.TrSolve.{raise_at, transposed_at, transposed_column, transposed as cs-solve-TrSolve-transposed}
use Rattle.cs_columns.specs.Columns.{joined, with_columns, with_entries, either, judged_two, short_for, laid}
use Rattle.cs_sum.specs.Sum.{gives, summed_at, row_of, value_of, sum, differ, number as cs-sum-Sum-number}
use Rattle.cs_product.specs.Product.{add_column as cs-product-Product-addColumn, accumulated, remains, row_of as cs-product-Product-rowOf}
use Rattle.cs_product.specs.Product.{value_of as cs-product-Product-valueOf, product, needed_two, number as cs-product-Product-number}
use Rattle.root.specs.Root.{whole_root, rounded, root_at, positive_root, root_of, root_bits}
use Rattle.examples.specs.Cases.{Case, cases}

pub every_case : map (λ (c : Case). c.yields) cases ≡ map (λ (c : Case). c.says) cases
unfolding flatten cases of_bits to_bits eq lt add sub mul div neg both lower cleared onto narrow wiped outputs worked leaves chosen some_of keep every tally turns falls along over rises all_below lists from too_large pointers column value_at columns_rise judged_pattern judged judged_vector needed short short_by written path paths upper_column upper across transposed cs-tree-Pattern-lower starts entries analysed root climb climbs tree_to tree judged_square cs-pattern-Analyse-short cs-pattern-Analyse-written number columns starts_with same tight cs-pattern-Compare-number factor judged_square_matrix judged_factor answer cs-cholesky-Factor-written put_at add_at add_column add_columns left_x quotients left_step left stray strays cs-left-Left-number cs-up-Up-putAt sub_at row_at rows_at start_at up_step up cs-up-Up-number diagonal lacking judged_solve lacking_columns cs-solve-Judge-number cs-solve-Judge-answer lower_at forward_at forward_column forward raise_at transposed_at transposed_column cs-solve-TrSolve-transposed joined with_columns with_entries either judged_two short_for laid gives summed_at row_of value_of sum differ cs-sum-Sum-number plus_at cs-product-Product-addColumn accumulated remains cs-product-Product-rowOf cs-product-Product-valueOf product needed_two cs-product-Product-number whole_root rounded root_at positive_root root_of root_bits
every_case = refl

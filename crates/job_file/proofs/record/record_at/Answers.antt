-- `record_at` meets its contract. Assumes nothing.
use mathlib.Core.Path.{◌∙◌}
use native.Mathlib.Omega.{arith}
use Rattle.job_file.proofs.Telling.{is_wrong, is_no_GO, is-SZ, is-EN, is-RH, is-GO}
use Rattle.job_file.proofs.record.record_at.Goals as goal

pub returns-in-23123-10-to-max : goal.returns-in-23123-10-to-max
returns-in-23123-10-to-max c = is-SZ c.args.s.now c.args.at c.u16_at.ensures.0 c.in-23123-10-to-max.is-0 (grind arith) c.u32_at.ensures
    c.u32_at-in-23123-10-to-max.ensures

pub returns-in-20037-18-to-max : goal.returns-in-20037-18-to-max
returns-in-20037-18-to-max c = is-EN c.args.s.now c.args.at c.u16_at.ensures.0 c.in-20037-18-to-max.is-0 (grind arith)
    c.u32_at-in-20037-18-to-max.ensures c.u32_at-in-20037-18-to-max-2.ensures c.u64_at.ensures

pub returns-in-18514-14-to-max : goal.returns-in-18514-14-to-max
returns-in-18514-14-to-max c = is-RH c.args.s.now c.args.at c.u16_at.ensures.0 c.in-18514-14-to-max.is-0 (grind arith)
    c.u32_at-in-18514-14-to-max.ensures c.u64_at-in-18514-14-to-max.ensures

pub returns-in_ok-engine_of-in-20295-3-to-max : goal.returns-in_ok-engine_of-in-20295-3-to-max
returns-in_ok-engine_of-in-20295-3-to-max c = is-GO c.args.s.now c.args.at c.u16_at.ensures.0 c.in-20295-3-to-max.is-0 (grind arith)
    (c.in_ok-engine_of-in-20295-3-to-max.ensures ∙ c.u8_at.ensures.0)

pub returns-in_err-engine_of-in-20295-3-to-max : goal.returns-in_err-engine_of-in-20295-3-to-max
returns-in_err-engine_of-in-20295-3-to-max c = rw c.from_residual.ensures (is_no_GO c.args.s.now c.args.at c.u16_at.ensures.0
    c.in-20295-3-to-max.is-0 (grind arith) c.u8_at.ensures.0 c.in_err-engine_of-in-20295-3-to-max.ensures)

pub returns-in_default : goal.returns-in_default
returns-in_default c = is_wrong c.args.s.now c.args.at c.u16_at.ensures.0 (grind arith) (grind arith) (grind arith) (grind arith)

pub returns-in_default-2 : goal.returns-in_default-2
returns-in_default-2 c = is_wrong c.args.s.now c.args.at c.u16_at.ensures.0 (grind arith) (grind arith) (grind arith) (grind arith)

pub returns-in_default-3 : goal.returns-in_default-3
returns-in_default-3 c = is_wrong c.args.s.now c.args.at c.u16_at.ensures.0 (grind arith) (grind arith) (grind arith) (grind arith)

pub returns-in_default-4 : goal.returns-in_default-4
returns-in_default-4 c = is_wrong c.args.s.now c.args.at c.u16_at.ensures.0 (grind arith) (grind arith) (grind arith) (grind arith)

pub returns-in_default-5 : goal.returns-in_default-5
returns-in_default-5 c = is_wrong c.args.s.now c.args.at c.u16_at.ensures.0 (grind arith) (grind arith) (grind arith) (grind arith)

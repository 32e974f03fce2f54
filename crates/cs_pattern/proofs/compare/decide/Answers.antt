-- `decide` meets its contract. Assumes nothing.
use Rattle.cs_pattern.specs.Lent.{analysis_of}
use Rattle.cs_pattern.proofs.Deciding.{up_long, lower_asks, decided, counted_many, counted-tight, counted_differs}
use Rattle.cs_pattern.proofs.compare.decide.Goals as goal

pub bounds-given-n : goal.bounds-given-n
bounds-given-n c = up_long c.requires.0 _ _ (c.read_upper.ensures.0 c.if-read_upper.true).holds

pub judge_lower-requires : goal.judge_lower-requires
judge_lower-requires c = lower_asks c.requires.0 c.args.w1.now c.args.w2.now c.args.w3.now c.requires.1 c.requires.2 c.requires.3 c.args.room
    (analysis_of c.args.given) c.wide.ensures.0 (c.read_upper.ensures.0 c.if-read_upper.true)

pub returns-then-read_upper : goal.returns-then-read_upper
returns-then-read_upper c = decided c.requires.0 _ _ _ c.requires.1 c.requires.2 c.requires.3 c.args.room (analysis_of c.args.given) c.wide.ensures.0
    (c.read_upper.ensures.0 c.if-read_upper.true) c.read_upper.ensures.2 c.read_upper.ensures.3 c.judge_lower.ensures

pub returns-in_default : goal.returns-in_default
returns-in_default c = counted_many c.requires.0 _ _ _ c.requires.1 c.requires.2 c.requires.3 c.read_upper.ensures.2 c.read_upper.ensures.3
    c.args.room (analysis_of c.args.given) c.in_default.ensures c.in_default.ensures.count

pub returns-then-room-t : goal.returns-then-room-t
returns-then-room-t c = counted-tight c.requires.0 _ _ _ c.requires.1 c.requires.2 c.requires.3 c.read_upper.ensures.2 c.read_upper.ensures.3
    c.args.room (analysis_of c.args.given) c.in-Some.ensures c.in-Some.ensures.count c.if-room-t.true

pub returns : goal.returns
returns c = counted_differs c.requires.0 _ _ _ c.requires.1 c.requires.2 c.requires.3 c.read_upper.ensures.2 c.read_upper.ensures.3 c.args.room
    (analysis_of c.args.given) c.in-Some.ensures c.in-Some.ensures.count c.if-room-t.false c.if-read_upper.false c.read_upper.ensures.1

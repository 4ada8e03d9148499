use Rattle.std.proofs.Common.{ℕ, List, get_or, sym, ap, ◌∙◌, arith}
use Rattle.std.proofs.lemmas.List.{get_or_past}
use Rattle.segments.specs.Table.{nth}
use Rattle.segments.proofs.Views.{here_by}
use Rattle.segments.proofs.SegmentLaws.{get_is}
use Rattle.segments.proofs.Segments.word.Goals as goal

pub returns-then-j-len : goal.returns-then-j-len
returns-then-j-len c = sym (get_or_past (nth c.args.self.now c.args.i).words c.args.j 0 (omega (arith, c.len.ensures.is, c.if-j-len.true)))

pub read-requires : goal.read-requires
read-requires c = (here_by c.self.inside.words.now c.self.inside.count c.args.self.now c.args.i c.args.j c.self.invariant c.self.view_is (omega (arith, c.len.ensures.is, c.if-j-len.false))).row

pub overflow_add-result : goal.overflow_add-result
overflow_add-result c = let f = here_by c.self.inside.words.now c.self.inside.count c.args.self.now c.args.i c.args.j c.self.invariant c.self.view_is (omega (arith, c.len.ensures.is, c.if-j-len.false)) in omega (arith, c.read.ensures, c.len.ensures.is, c.self.told)

pub offset_bounds-self-inside-read : goal.offset_bounds-self-inside-read
offset_bounds-self-inside-read c = let f = here_by c.self.inside.words.now c.self.inside.count c.args.self.now c.args.i c.args.j c.self.invariant c.self.view_is (omega (arith, c.len.ensures.is, c.if-j-len.false)) in omega (arith, c.read.ensures, c.len.ensures.is, c.self.told)

pub bounds-self-inside-read : goal.bounds-self-inside-read
bounds-self-inside-read c = let f = here_by c.self.inside.words.now c.self.inside.count c.args.self.now c.args.i c.args.j c.self.invariant c.self.view_is (omega (arith, c.len.ensures.is, c.if-j-len.false)) in omega (arith, c.read.ensures, c.len.ensures.is)

pub returns : goal.returns
returns c =
    let f = here_by c.self.inside.words.now c.self.inside.count c.args.self.now c.args.i c.args.j c.self.invariant c.self.view_is (omega (arith, c.len.ensures.is, c.if-j-len.false)) in
    rw c.read.ensures (get_is c.self.inside.words.now c.self.inside.count c.self.invariant c.args.i c.args.j f.lt (omega (arith, c.len.ensures.is, c.if-j-len.false)) ∙ ap (λ (x : List ℕ). get_or x c.args.j 0) f.words_at)

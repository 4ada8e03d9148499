use Rattle.machine.proofs.Moves.{lifted}
use Rattle.machine.proofs.step.take_step.Goals as goal

pub returns-in-AtList : goal.returns-in-AtList
returns-in-AtList c = lifted c.step_tree.result c.map.result c.map.ensures.cases c.step_tree.ensures

pub returns-in-AtWords : goal.returns-in-AtWords
returns-in-AtWords c = lifted c.step_words.result c.map-in-AtWords.result c.map-in-AtWords.ensures.cases c.step_words.ensures

pub returns-in-AtInvoke : goal.returns-in-AtInvoke
returns-in-AtInvoke c = lifted c.step_invoke.result c.map-in-AtInvoke.result c.map-in-AtInvoke.ensures.cases (c.step_invoke.ensures c.args.code.text.now c.args.code.words.now)

pub returns-in-AtBuiltin : goal.returns-in-AtBuiltin
returns-in-AtBuiltin c = lifted c.step_builtin.result c.map-in-AtBuiltin.result c.map-in-AtBuiltin.ensures.cases (c.step_builtin.ensures c.args.code.text.now c.args.code.words.now)

pub returns-in-AtPrint : goal.returns-in-AtPrint
returns-in-AtPrint c = c.step_print.ensures c.args.code.text.now c.args.code.words.now

pub returns-in-AtStatus : goal.returns-in-AtStatus
returns-in-AtStatus c = c.step_status.ensures c.args.paper.now c.args.place

pub returns-in-AtUnwind : goal.returns-in-AtUnwind
returns-in-AtUnwind c = c.step_unwind.ensures c.args.paper.now c.args.place

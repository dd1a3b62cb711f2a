use Rattle.psl_tree.proofs.Drops.{lighter-first}
use Rattle.psl_tree.proofs.fl.Fl.opened.Goals as goal

pub returns-in-Weak : goal.returns-in-Weak
returns-in-Weak c = lighter-first c.args.self c.args.waiting c.first_of.result c.first_of.ensures

pub returns-in-Now : goal.returns-in-Now
returns-in-Now c = lighter-first c.args.self c.args.waiting c.first_of-in-Now.result c.first_of-in-Now.ensures

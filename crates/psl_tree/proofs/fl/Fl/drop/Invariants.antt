use Rattle.psl_tree.specs.Dropped.{weight}
use Rattle.psl_tree.proofs.fl.Fl.drop.Given as goal

abbrev pub decreases-loop-part : goal.decreases-loop-part
decreases-loop-part l = weight (l.self, l.waiting)

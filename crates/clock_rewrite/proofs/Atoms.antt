-- Each atom of the rewritten form is one of the form or of the clock.
use Rattle.std.specs.Prelude.{IsTrue, Option, None, Some}
use Rattle.clock_rewrite.specs.Clock.{AtomsOfClock, KeepsAtoms}
use Rattle.psl_tree.specs.Plain.{plain, plain_sequence}
use Rattle.psl_tree.specs.Atoms.{AtomsOfSequence, AtomsOfFormula}
use Rattle.psl_tree.specs.Trees.{Boolean, Sequence, Formula, Empty, One, Concat, Fuse, Either, Both, Star, Now, NowStrong, Weak, Strong, Not, And, Next, Until, Suffix, Abort, SyncAbort, Clocked}
use Rattle.psl_tree.specs.declared.atom.Atom.{Atom}

module _ (P : Atom → Type 0) where
  pub sequence-atoms : (r : Sequence) (c : Option Boolean) → AtomsOfSequence P r → AtomsOfClock P c → AtomsOfSequence P (plain_sequence r c)
  sequence-atoms Empty c h k = tt
  sequence-atoms (One b) None h k = h
  sequence-atoms (One b) (Some c) h k = (k, (k, h))
  sequence-atoms (Concat r s) c h k = (sequence-atoms r c h.0 k, sequence-atoms s c h.1 k)
  sequence-atoms (Fuse r s) c h k = (sequence-atoms r c h.0 k, sequence-atoms s c h.1 k)
  sequence-atoms (Either r s) c h k = (sequence-atoms r c h.0 k, sequence-atoms s c h.1 k)
  sequence-atoms (Both r s) c h k = (sequence-atoms r c h.0 k, sequence-atoms s c h.1 k)
  sequence-atoms (Star r) c h k = sequence-atoms r c h k
  sequence-atoms (Clocked r d) c h k = sequence-atoms r (Some d) h.0 h.1

  pub formula-atoms : (f : Formula) (c : Option Boolean) → AtomsOfFormula P f → AtomsOfClock P c → AtomsOfFormula P (plain f c)
  formula-atoms (Now b) None h k = h
  formula-atoms (Now b) (Some c) h k = (k, (k, h))
  formula-atoms (NowStrong b) None h k = h
  formula-atoms (NowStrong b) (Some c) h k = (k, (k, h))
  formula-atoms (Weak r) c h k = sequence-atoms r c h k
  formula-atoms (Strong r) c h k = sequence-atoms r c h k
  formula-atoms (Not f) c h k = formula-atoms f c h k
  formula-atoms (And f g) c h k = (formula-atoms f c h.0 k, formula-atoms g c h.1 k)
  formula-atoms (Next f) None h k = formula-atoms f None h k
  formula-atoms (Next f) (Some c) h k = (k, (k, (k, (k, formula-atoms f (Some c) h k))))
  formula-atoms (Until f g) None h k = (formula-atoms f None h.0 k, formula-atoms g None h.1 k)
  formula-atoms (Until f g) (Some c) h k = ((k, formula-atoms f (Some c) h.0 k), (k, formula-atoms g (Some c) h.1 k))
  formula-atoms (Suffix r f) c h k = (sequence-atoms r c h.0 k, formula-atoms f c h.1 k)
  formula-atoms (Abort f b) c h k = (formula-atoms f c h.0 k, h.1)
  formula-atoms (SyncAbort f b) None h k = (formula-atoms f None h.0 k, h.1)
  formula-atoms (SyncAbort f b) (Some c) h k = (formula-atoms f (Some c) h.0 k, (k, h.1))
  formula-atoms (Clocked f d) c h k = formula-atoms f (Some d) h.0 h.1

pub plain_atoms : (f : Formula) (c : Option Boolean) → KeepsAtoms (plain f c) f c
plain_atoms f c = λ test h k. formula-atoms (λ atom. IsTrue (test atom)) f c h k

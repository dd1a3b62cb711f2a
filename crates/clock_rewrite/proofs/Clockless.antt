-- The rewritten form has no clock and no synchronous abort.
use Rattle.std.specs.Prelude.{Option, None, Some}
use Rattle.psl_tree.specs.Clockless.{HasNoClock, IsPlain}
use Rattle.psl_tree.specs.Plain.{plain, plain_sequence}
use Rattle.psl_tree.specs.Trees.{Boolean, Sequence, Formula, Empty, One, Concat, Fuse, Either, Both, Star, Now, NowStrong, Weak, Strong, Not, And, Next, Until, Suffix, Abort, SyncAbort, Clocked}

pub plain_sequence_plain : (r : Sequence) (c : Option Boolean) → HasNoClock (plain_sequence r c)
plain_sequence_plain Empty c = tt
plain_sequence_plain (One b) None = tt
plain_sequence_plain (One b) (Some c) = (tt, tt)
plain_sequence_plain (Concat r s) c = (plain_sequence_plain r c, plain_sequence_plain s c)
plain_sequence_plain (Fuse r s) c = (plain_sequence_plain r c, plain_sequence_plain s c)
plain_sequence_plain (Either r s) c = (plain_sequence_plain r c, plain_sequence_plain s c)
plain_sequence_plain (Both r s) c = (plain_sequence_plain r c, plain_sequence_plain s c)
plain_sequence_plain (Star r) c = plain_sequence_plain r c
plain_sequence_plain (Clocked r d) c = plain_sequence_plain r (Some d)

pub plain_plain : (f : Formula) (c : Option Boolean) → IsPlain (plain f c)
plain_plain (Now b) None = tt
plain_plain (Now b) (Some c) = (tt, tt)
plain_plain (NowStrong b) None = tt
plain_plain (NowStrong b) (Some c) = (tt, tt)
plain_plain (Weak r) c = plain_sequence_plain r c
plain_plain (Strong r) c = plain_sequence_plain r c
plain_plain (Not f) c = plain_plain f c
plain_plain (And f g) c = (plain_plain f c, plain_plain g c)
plain_plain (Next f) None = plain_plain f None
plain_plain (Next f) (Some c) = (tt, (tt, (tt, (tt, plain_plain f (Some c)))))
plain_plain (Until f g) None = (plain_plain f None, plain_plain g None)
plain_plain (Until f g) (Some c) = ((tt, plain_plain f (Some c)), (tt, plain_plain g (Some c)))
plain_plain (Suffix r f) c = (plain_sequence_plain r c, plain_plain f c)
plain_plain (Abort f b) c = plain_plain f c
plain_plain (SyncAbort f b) None = plain_plain f None
plain_plain (SyncAbort f b) (Some c) = plain_plain f (Some c)
plain_plain (Clocked f d) c = plain_plain f (Some d)

use Rattle.std.proofs.Common.{refl}
use Rattle.sat_command.proofs.finish.finish_answer.Goals as goal

pub returns-in-Err-clause-printed : goal.returns-in-Err-clause-printed
returns-in-Err-clause-printed g c = λ asked. rw c.unwritten.ensures.fault (refl, c.unwritten.ensures.told asked)

pub returns-in-Err-put_all-clause-printed : goal.returns-in-Err-put_all-clause-printed
returns-in-Err-put_all-clause-printed g c = λ asked.
    rw (c.unwritten-in-Err-put_all.ensures.fault, c.unwritten-in-Err-put_all.ensures.answer)
    (rw (← c.requires.text, ← c.as_slice-2.ensures) c.in-Err-put_all.ensures.part, c.unwritten-in-Err-put_all.ensures.told asked)

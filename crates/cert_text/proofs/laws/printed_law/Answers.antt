use Rattle.cert_text.proofs.Living.{most_is}
use Rattle.cert_text.proofs.Passing.{none_refused, text_header, text_passes}
use Rattle.cert_text.proofs.laws.printed_law.Goals as goal

pub returns-clause-passes : goal.returns-clause-passes
returns-clause-passes c = λ asked queries version certificate evidence. text_passes asked queries version certificate evidence

pub returns-clause-refused : goal.returns-clause-refused
returns-clause-refused c = λ asked queries version certificate evidence reason number refusal.
    none_refused asked queries version certificate evidence reason number refusal

pub returns-clause-header : goal.returns-clause-header
returns-clause-header c = λ asked queries version certificate evidence. text_header asked queries version certificate evidence

pub returns-clause-live : goal.returns-clause-live
returns-clause-live c = λ query log drops. most_is query log drops

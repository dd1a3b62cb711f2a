use Rattle.std.proofs.Common.{◌∙◌, ap, sym, Bool, length, arith, refl}
use Rattle.clauses.specs.Entries.{entry_of}
use Rattle.clause_text.specs.Lines.{has_line}
use Rattle.cert_theory.specs.Sections.{IsEntryLine}
use Rattle.cert_lines.specs.declared.entries.SectionChecker.{SectionChecker}
use Rattle.cert_lines.proofs.Becoming.{becomes_taken}
use Rattle.cert_lines.proofs.Holding.{bytes_after, line_long}
use Rattle.cert_lines.proofs.entries.SectionChecker.take.Goals as goal

pub take-requires-clause-words : goal.take-requires-clause-words
take-requires-clause-words c =
    let entry = entry_of c.in-Some.entry in
    let read = rw c.in-Some.is at c.in_ok-entry.ensures.some in
    let is : IsEntryLine c.args.self.now.header.form c.args.line.now entry =
    record { is = read.1; has = ap (λ (b : Bool). has_line b entry) (sym c.drops_in.ensures) ∙ read.0 } in
    omega (arith, c.requires, line_long c.args.self.now.header.form c.args.line.now entry is)

pub returns-clause-becomes : goal.returns-clause-becomes
returns-clause-becomes c = λ query entries holds.
    let entry = entry_of c.in-Some.entry in
    let old = c.args.self.now in
    let new : SectionChecker = record { header = old.header; section = old.section; checker = c.take.new.self; ended = c.is_empty-self.result } in
    let read = rw c.in-Some.is at c.in_ok-entry.ensures.some in
    let is : IsEntryLine old.header.form c.args.line.now entry =
    record { is = read.1; has = ap (λ (b : Bool). has_line b entry) (sym c.drops_in.ensures) ∙ read.0 } in
    rw c.step_of.ensures (becomes_taken old new query entries c.args.line.now holds c.if-self.false refl entry c.in_ok-step.step is c.is_empty-self.ensures c.in_ok-step.ensures.ok)

pub returns-clause-room : goal.returns-clause-room
returns-clause-room c =
    let entry = entry_of c.in-Some.entry in
    let read = rw c.in-Some.is at c.in_ok-entry.ensures.some in
    let is : IsEntryLine c.args.self.now.header.form c.args.line.now entry =
    record { is = read.1; has = ap (λ (b : Bool). has_line b entry) (sym c.drops_in.ensures) ∙ read.0 } in
    bytes_after c.args.self.now.checker c.take.new.self entry c.in_ok-step.step (length c.args.line.now)
    (line_long c.args.self.now.header.form c.args.line.now entry is) c.in_ok-step.ensures.ok

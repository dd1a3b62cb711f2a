use Rattle.std.proofs.Common.{◌∙◌, ap, ◌++◌, ℕ, List, append_assoc}
use Rattle.std.proofs.lemmas.Result.{on_ok_weaker}
use Rattle.cert_theory.specs.Lines.{lines_text}
use Rattle.cert_theory.specs.Printed.{section_lines}
use Rattle.cert_theory.specs.declared.header.Form.TheVariants.{Clausal}
use Rattle.cert_theory.specs.declared.header.Section.TheVariants.{Initial, Step, Bad}
use Rattle.cert_text.proofs.Joining.{lines_added}
use Rattle.cert_text.proofs.inductive.add_logs.Goals as goal

pub returns : goal.returns
returns c =
    let certificate = c.args.certificate.now in
    let old = c.args.text.now.items in
    let initial = section_lines Clausal Initial certificate.initial in
    let step = section_lines Clausal Step certificate.step in
    let bad = section_lines Clausal Bad certificate.bad in
    let second = lines_added initial step old c.add_section.new.text.items c.add_section-2.new.text.items c.in_ok-add_section.ensures c.in_ok-add_section-2.ensures in
    on_ok_weaker c.add_section-3.result
    (λ last. lines_added (initial ++ step) bad old c.add_section-2.new.text.items c.add_section-3.new.text.items second last
    ∙ ap (λ (lines : List (List ℕ)). old ++ lines_text lines) (append_assoc initial step bad))
    c.add_section-3.ensures

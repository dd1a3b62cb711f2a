use Rattle.std.proofs.Common.{◌∙◌, ap, [], ◌∷◌, ◌++◌, ℕ, List}
use Rattle.std.proofs.lemmas.Result.{on_ok_weaker}
use Rattle.cert_theory.specs.Lines.{end_line, lines_text}
use Rattle.cert_theory.specs.Printed.{entry_lines}
use Rattle.cert_text.proofs.Joining.{lines_added}
use Rattle.cert_text.proofs.lines.add_section.Goals as goal

pub returns : goal.returns
returns c =
    let log = entry_lines c.args.form c.args.log.now in
    let end = end_line c.args.section in
    let text = c.add_entries.new.text.items in
    on_ok_weaker c.add_line.result
    (λ last. lines_added log (end ∷ []) c.args.text.now.items text c.add_line.new.text.items c.in_ok-add_entries.ensures (last ∙ ap (λ (line : List ℕ). text ++ lines_text (line ∷ [])) c.last_line.ensures))
    c.add_line.ensures

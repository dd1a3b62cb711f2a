use Rattle.std.proofs.Common.{◌∙◌, ap, sym, [], ◌++◌, ℕ, List, append_assoc}
use Rattle.cert_theory.specs.Lines.{header_lines, lines_text}
use Rattle.cert_theory.specs.Printed.{header_of, section_lines}
use Rattle.cert_theory.specs.declared.header.Form.TheVariants.{Windowed}
use Rattle.cert_theory.specs.declared.header.Section.TheVariants.{Base, Induction}
use Rattle.cert_text.proofs.Joining.{all_lines, lines_added}
use Rattle.cert_text.proofs.printing.print.Goals as goal

pub returns : goal.returns
returns c =
    let certificate = c.args.certificate.now in
    let header = header_lines certificate.assertion (header_of c.args.version certificate) in
    let base = section_lines (Windowed c.args.version) Base certificate.base in
    let induction = section_lines (Windowed c.args.version) Induction certificate.induction in
    let empty = c.new-text.ensures.items in
    let first = c.in_ok-add_header.ensures ∙ ap (λ (text : List ℕ). text ++ lines_text header) empty in
    let second = lines_added header base [] c.add_header.new.text.items c.add_section.new.text.items first c.in_ok-add_section.ensures in
    let third = lines_added (header ++ base) induction [] c.add_section.new.text.items c.add_section-2.new.text.items second c.in_ok-add_section-2.ensures in
    c.from_vec.ensures ∙ third ∙ ap lines_text (append_assoc header base induction ∙ sym (all_lines c.args.version certificate))

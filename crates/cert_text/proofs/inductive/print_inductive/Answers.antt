use Rattle.std.proofs.Common.{◌∙◌, ap, [], ◌++◌, ℕ, List, append_assoc}
use Rattle.cert_theory.specs.Lines.{header_lines, lines_text}
use Rattle.cert_theory.specs.Printed.{clause_lines, inductive_header, log_lines_of}
use Rattle.cert_text.proofs.Joining.{lines_added}
use Rattle.cert_text.proofs.inductive.print_inductive.Goals as goal

pub returns : goal.returns
returns c =
    let certificate = c.args.certificate.now in
    let header = header_lines certificate.assertion (inductive_header certificate) in
    let clauses = clause_lines certificate.clauses in
    let logs = log_lines_of certificate in
    let empty = c.new-text.ensures.items in
    let first = c.in_ok-add_header.ensures ∙ ap (λ (text : List ℕ). text ++ lines_text header) empty in
    let second = lines_added header clauses [] c.add_header.new.text.items c.add_clause_lines.new.text.items first c.in_ok-add_clause_lines.ensures in
    let third = lines_added (header ++ clauses) logs [] c.add_clause_lines.new.text.items c.add_logs.new.text.items second c.in_ok-add_logs.ensures in
    c.from_vec.ensures ∙ third ∙ ap lines_text (append_assoc header clauses logs)

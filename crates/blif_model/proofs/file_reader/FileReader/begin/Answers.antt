use Rattle.std.proofs.Common.{◌≡◌, ◌∙◌, ◌∷◌, None, Some, true, ap, drop, map, sym, subst, slice_index_or}
use Rattle.std.specs.Option.{option_map}
use Rattle.blif_model.specs.FileKnown.{FileKnown, begin_fault_in, known_over, titled_by}
use Rattle.blif_model.specs.Names.{is_new}
use Rattle.blif_model.specs.Scanning.{word_of}
use Rattle.blif_model.proofs.Keeping.{begin-new, begun-none, begun-some, head-map}
use Rattle.blif_model.proofs.file_reader.FileReader.begin.Goals as goal

pub name-requires-in-Some-title-clause-new : goal.name-requires-in-Some-title-clause-new
name-requires-in-Some-title-clause-new c =
    let file = c.args.self in
    let f = word_of file.own.named.whole in
    let word = slice_index_or c.args.words.now 0 (record { at = 0; len = 0 }) in
    let some = c.in-len1-up.len_at_least in
    subst (λ (over : FileKnown). is_new over.titles (word_of over.own.named.whole word).text ≡ true) (sym c.in_ok-end-in-Some-title.ensures)
    (begin-new file (f c.args.head) (f word) (map f (drop 1 c.args.words.now))
    (subst (λ words. begin_fault_in file (f c.args.head) words ≡ None) (head-map f c.args.words.now (record { at = 0; len = 0 }) some)
    (sym c.begin_fault.ensures ∙ c.in_default.is)))

pub returns-in_ok-name-in-None-clause-known : goal.returns-in_ok-name-in-None-clause-known
returns-in_ok-name-in-None-clause-known c =
    let file = c.args.self in
    let f = word_of file.own.named.whole in
    let title : file.title ≡ None =
    sym (ap (λ (known : FileKnown). known.title) c.self.view_is) ∙ ap (option_map (word_of c.self.inside.own.named.whole)) c.in-None.is in
    c.in_ok-name-in-None.ensures (map f (drop 1 c.args.words.now))
    ∙ ap (titled_by file) (sym (head-map f c.args.words.now (record { at = 0; len = 0 }) c.in-len1-up.len_at_least))
    ∙ begun-none file (map f c.args.words.now) title

pub returns-in_ok-name-in-Some-title-clause-known : goal.returns-in_ok-name-in-Some-title-clause-known
returns-in_ok-name-in-Some-title-clause-known c =
    let file = c.args.self in
    let f = word_of file.own.named.whole in
    let word = slice_index_or c.args.words.now 0 (record { at = 0; len = 0 }) in
    let rest = map f (drop 1 c.args.words.now) in
    let title : file.title ≡ Some (word_of c.self.inside.own.named.whole c.in-Some-title.field-0) =
    sym (ap (λ (known : FileKnown). known.title) c.self.view_is) ∙ ap (option_map (word_of c.self.inside.own.named.whole)) c.in-Some-title.is in
    c.in_ok-name-in-Some-title.ensures rest
    ∙ ap (λ (over : FileKnown). titled_by over (word_of over.own.named.whole word ∷ rest)) c.in_ok-end-in-Some-title.ensures
    ∙ ap (titled_by (known_over file)) (sym (head-map f c.args.words.now (record { at = 0; len = 0 }) c.in-len1-up.len_at_least))
    ∙ begun-some file (map f c.args.words.now) (word_of c.self.inside.own.named.whole c.in-Some-title.field-0) title

use Rattle.std.proofs.lemmas.Result.{err_from_is_err_and}
use Rattle.cert_lines.proofs.Heads.{after_asked, after_last, after_live, after_form, after_visits, after_window, has_header, no_queries, refuses_asked, refuses_last, refuses_live, refuses_form, refuses_visits, refuses_window}
use Rattle.cert_lines.proofs.Moving.{at_begin}
use Rattle.cert_lines.proofs.header.read_header.Goals as goal

pub returns-in_err-form-clause-refused : goal.returns-in_err-form-clause-refused
returns-in_err-form-clause-refused c =
    let p = err_from_is_err_and c.from_residual.result c.from_residual.ensures.1 in
    rw (p.1, p.2) (λ queries. (refuses_form c.args.asked queries c.args.reading.now.rest.now c.args.reading.now c.in_err-form.field-0.0
    (at_begin c.args.asked queries c.args.reading.now c.requires) c.in_err-form.ensures.refused).0)

pub returns-in_err-form-clause-none : goal.returns-in_err-form-clause-none
returns-in_err-form-clause-none c =
    let p = err_from_is_err_and c.from_residual.result c.from_residual.ensures.1 in
    rw p.1 (refuses_form c.args.asked no_queries c.args.reading.now.rest.now c.args.reading.now c.in_err-form.field-0.0
    (at_begin c.args.asked no_queries c.args.reading.now c.requires) c.in_err-form.ensures.refused).1

pub returns-in_err-asked-clause-refused : goal.returns-in_err-asked-clause-refused
returns-in_err-asked-clause-refused c =
    let p = err_from_is_err_and c.from_residual-in_err-asked.result c.from_residual-in_err-asked.ensures.1 in
    rw (p.1, p.2) (λ queries. (refuses_asked c.args.asked queries c.args.reading.now.rest.now c.in_ok-form.form c.form.new.self c.in_err-asked.field-0.0
    (after_form c.args.asked queries c.args.reading.now.rest.now c.in_ok-form.form c.args.reading.now c.form.new.self
    (at_begin c.args.asked queries c.args.reading.now c.requires) c.in_ok-form.ensures.form) c.in_err-asked.ensures.refused).0)

pub returns-in_err-asked-clause-none : goal.returns-in_err-asked-clause-none
returns-in_err-asked-clause-none c =
    let p = err_from_is_err_and c.from_residual-in_err-asked.result c.from_residual-in_err-asked.ensures.1 in
    rw p.1 (refuses_asked c.args.asked no_queries c.args.reading.now.rest.now c.in_ok-form.form c.form.new.self c.in_err-asked.field-0.0
    (after_form c.args.asked no_queries c.args.reading.now.rest.now c.in_ok-form.form c.args.reading.now c.form.new.self
    (at_begin c.args.asked no_queries c.args.reading.now c.requires) c.in_ok-form.ensures.form) c.in_err-asked.ensures.refused).1

pub returns-in_err-visits-clause-refused : goal.returns-in_err-visits-clause-refused
returns-in_err-visits-clause-refused c =
    let p = err_from_is_err_and c.from_residual-in_err-visits.result c.from_residual-in_err-visits.ensures.1 in
    rw (p.1, p.2) (λ queries. (refuses_visits c.args.asked queries c.args.reading.now.rest.now c.in_ok-form.form c.asked.new.self c.in_err-visits.field-0.0
    (after_asked c.args.asked queries c.args.reading.now.rest.now c.in_ok-form.form c.form.new.self c.asked.new.self
    (after_form c.args.asked queries c.args.reading.now.rest.now c.in_ok-form.form c.args.reading.now c.form.new.self
    (at_begin c.args.asked queries c.args.reading.now c.requires) c.in_ok-form.ensures.form) c.in_ok-asked.ensures.asked) c.in_err-visits.ensures.refused).0)

pub returns-in_err-visits-clause-none : goal.returns-in_err-visits-clause-none
returns-in_err-visits-clause-none c =
    let p = err_from_is_err_and c.from_residual-in_err-visits.result c.from_residual-in_err-visits.ensures.1 in
    rw p.1 (refuses_visits c.args.asked no_queries c.args.reading.now.rest.now c.in_ok-form.form c.asked.new.self c.in_err-visits.field-0.0
    (after_asked c.args.asked no_queries c.args.reading.now.rest.now c.in_ok-form.form c.form.new.self c.asked.new.self
    (after_form c.args.asked no_queries c.args.reading.now.rest.now c.in_ok-form.form c.args.reading.now c.form.new.self
    (at_begin c.args.asked no_queries c.args.reading.now c.requires) c.in_ok-form.ensures.form) c.in_ok-asked.ensures.asked) c.in_err-visits.ensures.refused).1

pub returns-in_err-window-clause-refused : goal.returns-in_err-window-clause-refused
returns-in_err-window-clause-refused c =
    let p = err_from_is_err_and c.from_residual-in_err-window.result c.from_residual-in_err-window.ensures.1 in
    rw (p.1, p.2) (λ queries. (refuses_window c.args.asked queries c.args.reading.now.rest.now c.in_ok-form.form c.in_ok-visits.visits c.number.new.self c.in_err-window.field-0.0
    (after_visits c.args.asked queries c.args.reading.now.rest.now c.in_ok-form.form c.in_ok-visits.visits c.asked.new.self c.number.new.self
    (after_asked c.args.asked queries c.args.reading.now.rest.now c.in_ok-form.form c.form.new.self c.asked.new.self
    (after_form c.args.asked queries c.args.reading.now.rest.now c.in_ok-form.form c.args.reading.now c.form.new.self
    (at_begin c.args.asked queries c.args.reading.now c.requires) c.in_ok-form.ensures.form) c.in_ok-asked.ensures.asked) c.in_ok-visits.ensures.number) c.in_err-window.ensures.refused).0)

pub returns-in_err-window-clause-none : goal.returns-in_err-window-clause-none
returns-in_err-window-clause-none c =
    let p = err_from_is_err_and c.from_residual-in_err-window.result c.from_residual-in_err-window.ensures.1 in
    rw p.1 (refuses_window c.args.asked no_queries c.args.reading.now.rest.now c.in_ok-form.form c.in_ok-visits.visits c.number.new.self c.in_err-window.field-0.0
    (after_visits c.args.asked no_queries c.args.reading.now.rest.now c.in_ok-form.form c.in_ok-visits.visits c.asked.new.self c.number.new.self
    (after_asked c.args.asked no_queries c.args.reading.now.rest.now c.in_ok-form.form c.form.new.self c.asked.new.self
    (after_form c.args.asked no_queries c.args.reading.now.rest.now c.in_ok-form.form c.args.reading.now c.form.new.self
    (at_begin c.args.asked no_queries c.args.reading.now c.requires) c.in_ok-form.ensures.form) c.in_ok-asked.ensures.asked) c.in_ok-visits.ensures.number) c.in_err-window.ensures.refused).1

pub returns-in_err-live-clause-refused : goal.returns-in_err-live-clause-refused
returns-in_err-live-clause-refused c =
    let p = err_from_is_err_and c.from_residual-in_err-live.result c.from_residual-in_err-live.ensures.1 in
    rw (p.1, p.2) (λ queries. (refuses_live c.args.asked queries c.args.reading.now.rest.now c.in_ok-form.form c.in_ok-visits.visits c.in_ok-window.window c.window.new.self c.in_err-live.field-0.0
    (after_window c.args.asked queries c.args.reading.now.rest.now c.in_ok-form.form c.in_ok-visits.visits c.in_ok-window.window c.number.new.self c.window.new.self
    (after_visits c.args.asked queries c.args.reading.now.rest.now c.in_ok-form.form c.in_ok-visits.visits c.asked.new.self c.number.new.self
    (after_asked c.args.asked queries c.args.reading.now.rest.now c.in_ok-form.form c.form.new.self c.asked.new.self
    (after_form c.args.asked queries c.args.reading.now.rest.now c.in_ok-form.form c.args.reading.now c.form.new.self
    (at_begin c.args.asked queries c.args.reading.now c.requires) c.in_ok-form.ensures.form) c.in_ok-asked.ensures.asked) c.in_ok-visits.ensures.number) c.in_ok-window.ensures.window) c.in_err-live.ensures.refused).0)

pub returns-in_err-live-clause-none : goal.returns-in_err-live-clause-none
returns-in_err-live-clause-none c =
    let p = err_from_is_err_and c.from_residual-in_err-live.result c.from_residual-in_err-live.ensures.1 in
    rw p.1 (refuses_live c.args.asked no_queries c.args.reading.now.rest.now c.in_ok-form.form c.in_ok-visits.visits c.in_ok-window.window c.window.new.self c.in_err-live.field-0.0
    (after_window c.args.asked no_queries c.args.reading.now.rest.now c.in_ok-form.form c.in_ok-visits.visits c.in_ok-window.window c.number.new.self c.window.new.self
    (after_visits c.args.asked no_queries c.args.reading.now.rest.now c.in_ok-form.form c.in_ok-visits.visits c.asked.new.self c.number.new.self
    (after_asked c.args.asked no_queries c.args.reading.now.rest.now c.in_ok-form.form c.form.new.self c.asked.new.self
    (after_form c.args.asked no_queries c.args.reading.now.rest.now c.in_ok-form.form c.args.reading.now c.form.new.self
    (at_begin c.args.asked no_queries c.args.reading.now c.requires) c.in_ok-form.ensures.form) c.in_ok-asked.ensures.asked) c.in_ok-visits.ensures.number) c.in_ok-window.ensures.window) c.in_err-live.ensures.refused).1

pub returns-in_err-last-clause-refused : goal.returns-in_err-last-clause-refused
returns-in_err-last-clause-refused c =
    let p = err_from_is_err_and c.from_residual-in_err-last.result c.from_residual-in_err-last.ensures.1 in
    rw (p.1, p.2) (λ queries. (refuses_last c.args.asked queries c.args.reading.now.rest.now (record { form = c.in_ok-form.form; visits = c.in_ok-visits.visits; window = c.in_ok-window.window; live = c.in_ok-live.live }) c.live.new.self c.in_err-last.field-0.0
    (after_live c.args.asked queries c.args.reading.now.rest.now c.in_ok-form.form c.in_ok-visits.visits c.in_ok-window.window c.in_ok-live.live c.window.new.self c.live.new.self
    (after_window c.args.asked queries c.args.reading.now.rest.now c.in_ok-form.form c.in_ok-visits.visits c.in_ok-window.window c.number.new.self c.window.new.self
    (after_visits c.args.asked queries c.args.reading.now.rest.now c.in_ok-form.form c.in_ok-visits.visits c.asked.new.self c.number.new.self
    (after_asked c.args.asked queries c.args.reading.now.rest.now c.in_ok-form.form c.form.new.self c.asked.new.self
    (after_form c.args.asked queries c.args.reading.now.rest.now c.in_ok-form.form c.args.reading.now c.form.new.self
    (at_begin c.args.asked queries c.args.reading.now c.requires) c.in_ok-form.ensures.form) c.in_ok-asked.ensures.asked) c.in_ok-visits.ensures.number) c.in_ok-window.ensures.window) c.in_ok-live.ensures.live) c.in_err-last.ensures.refused).0)

pub returns-in_err-last-clause-none : goal.returns-in_err-last-clause-none
returns-in_err-last-clause-none c =
    let p = err_from_is_err_and c.from_residual-in_err-last.result c.from_residual-in_err-last.ensures.1 in
    rw p.1 (refuses_last c.args.asked no_queries c.args.reading.now.rest.now (record { form = c.in_ok-form.form; visits = c.in_ok-visits.visits; window = c.in_ok-window.window; live = c.in_ok-live.live }) c.live.new.self c.in_err-last.field-0.0
    (after_live c.args.asked no_queries c.args.reading.now.rest.now c.in_ok-form.form c.in_ok-visits.visits c.in_ok-window.window c.in_ok-live.live c.window.new.self c.live.new.self
    (after_window c.args.asked no_queries c.args.reading.now.rest.now c.in_ok-form.form c.in_ok-visits.visits c.in_ok-window.window c.number.new.self c.window.new.self
    (after_visits c.args.asked no_queries c.args.reading.now.rest.now c.in_ok-form.form c.in_ok-visits.visits c.asked.new.self c.number.new.self
    (after_asked c.args.asked no_queries c.args.reading.now.rest.now c.in_ok-form.form c.form.new.self c.asked.new.self
    (after_form c.args.asked no_queries c.args.reading.now.rest.now c.in_ok-form.form c.args.reading.now c.form.new.self
    (at_begin c.args.asked no_queries c.args.reading.now c.requires) c.in_ok-form.ensures.form) c.in_ok-asked.ensures.asked) c.in_ok-visits.ensures.number) c.in_ok-window.ensures.window) c.in_ok-live.ensures.live) c.in_err-last.ensures.refused).1

pub returns-clause-header : goal.returns-clause-header
returns-clause-header c =
    has_header c.args.asked (record { form = c.in_ok-form.form; visits = c.in_ok-visits.visits; window = c.in_ok-window.window; live = c.in_ok-live.live })
    c.args.reading.now c.form.new.self c.asked.new.self c.number.new.self c.window.new.self c.live.new.self c.last.new.self (record {
      form = c.in_ok-form.ensures.form;
      asked_for = c.in_ok-asked.ensures.asked;
      visits = c.in_ok-visits.ensures.number;
      window = c.in_ok-window.ensures.window;
      live = c.in_ok-live.ensures.live;
      last = c.in_ok-last.ensures.last;
    })

pub returns-clause-behind : goal.returns-clause-behind
returns-clause-behind c = λ queries.
    after_last c.args.asked queries c.args.reading.now.rest.now (record { form = c.in_ok-form.form; visits = c.in_ok-visits.visits; window = c.in_ok-window.window; live = c.in_ok-live.live }) c.live.new.self c.last.new.self
    (after_live c.args.asked queries c.args.reading.now.rest.now c.in_ok-form.form c.in_ok-visits.visits c.in_ok-window.window c.in_ok-live.live c.window.new.self c.live.new.self
    (after_window c.args.asked queries c.args.reading.now.rest.now c.in_ok-form.form c.in_ok-visits.visits c.in_ok-window.window c.number.new.self c.window.new.self
    (after_visits c.args.asked queries c.args.reading.now.rest.now c.in_ok-form.form c.in_ok-visits.visits c.asked.new.self c.number.new.self
    (after_asked c.args.asked queries c.args.reading.now.rest.now c.in_ok-form.form c.form.new.self c.asked.new.self
    (after_form c.args.asked queries c.args.reading.now.rest.now c.in_ok-form.form c.args.reading.now c.form.new.self
    (at_begin c.args.asked queries c.args.reading.now c.requires) c.in_ok-form.ensures.form) c.in_ok-asked.ensures.asked) c.in_ok-visits.ensures.number) c.in_ok-window.ensures.window) c.in_ok-live.ensures.live) c.in_ok-last.ensures.last

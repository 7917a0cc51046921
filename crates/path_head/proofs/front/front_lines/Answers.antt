-- A text begins with one front.
use Rattle.path_head.specs.HeadTexts.{of_before, counts_before, link_before}
use Rattle.path_head.proofs.Fronts.{behind_room, behind_of, behind_counts, front_is, front_same}
use Rattle.path_head.proofs.front.front_lines.Goals as goal

pub returns-in_default-clause-err : goal.returns-in_default-clause-err
returns-in_default-clause-err c = λ f rest h e.
    c.in_default.ensures.none f.room (of_before c.args.print.now (counts_before f.before (link_before c.args.print.now f.link rest))) h.room e

pub returns-in_default-sum_line-clause-err : goal.returns-in_default-sum_line-clause-err
returns-in_default-sum_line-clause-err c = λ f rest h e.
    let room = c.in-Some.ensures.some in
    c.in_default-sum_line.ensures.none (counts_before f.before (link_before c.args.print.now f.link rest))
    (behind_room c.args.print.now c.args.text.now f rest h e c.in-Some.room c.in-Some.rest.now room.1 room.0)

pub returns-in_default-counts_line-clause-err : goal.returns-in_default-counts_line-clause-err
returns-in_default-counts_line-clause-err c = λ f rest h e.
    let room = c.in-Some.ensures.some in
    c.in_default-counts_line.ensures.none f.before (link_before c.args.print.now f.link rest) h.before
    (behind_of c.args.print.now c.args.text.now f rest h e c.in-Some.room c.in-Some.rest.now c.in-Some-sum_line.rest.now room.1 room.0 c.in-Some-sum_line.ensures.some)

pub returns-in_default-link_line-clause-err : goal.returns-in_default-link_line-clause-err
returns-in_default-link_line-clause-err c = λ f rest h e.
    let room = c.in-Some.ensures.some in
    let before = c.in-Some-counts_line.ensures.some in
    c.in_default-link_line.ensures.none f.link rest h.link
    (behind_counts c.args.print.now c.args.text.now f rest h e c.in-Some.room c.in-Some.rest.now c.in-Some-sum_line.rest.now c.in-Some-counts_line.before c.in-Some-counts_line.rest.now room.1 room.0 c.in-Some-sum_line.ensures.some before.1 before.0)

pub returns-clause-ok : goal.returns-clause-ok
returns-clause-ok c =
    let room = c.in-Some.ensures.some in
    let before = c.in-Some-counts_line.ensures.some in
    let link = c.in-Some-link_line.ensures.some in (
      front_is c.args.print.now c.args.text.now c.in-Some.rest.now c.in-Some-sum_line.rest.now c.in-Some-counts_line.rest.now c.in-Some-link_line.rest.now
          (record { room = c.in-Some.room; before = c.in-Some-counts_line.before; link = c.in-Some-link_line.link }) room.0 c.in-Some-sum_line.ensures.some before.0 link.0,
      record { room = room.1; before = before.1; link = link.1; linked = c.if-not-is_linked.ensures.yes },
    )

pub returns-then-not-is_linked-clause-err : goal.returns-then-not-is_linked-clause-err
returns-then-not-is_linked-clause-err c = λ f rest h e.
    let room = c.in-Some.ensures.some in
    let before = c.in-Some-counts_line.ensures.some in
    let link = c.in-Some-link_line.ensures.some in
    c.if-not-is_linked.ensures.no (front_same c.args.print.now c.args.text.now c.in-Some.rest.now c.in-Some-sum_line.rest.now c.in-Some-counts_line.rest.now c.in-Some.room c.in-Some-counts_line.before c.in-Some-link_line.link c.in-Some-link_line.rest.now
    room.1 room.0 c.in-Some-sum_line.ensures.some before.1 before.0 link.1 link.0 f rest h e)

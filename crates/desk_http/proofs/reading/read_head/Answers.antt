use Rattle.std.proofs.Common.{rules, ◌==◌, ◌+◌, ◌<◌, take, ap, sym, subst, ◌∙◌, length, arith}
use Rattle.httparse.specs.Grammar.{NeverHasRequest, HasNoRequest}
use Rattle.httparse.specs.Spans.{IsRequestOf}
use Rattle.desk_http.specs.Heads.{head_limit}
use Rattle.desk_http.specs.Reading.{input_of, Grows, Stops}
use Rattle.desk_http.specs.Requests.{IsPart}
use Rattle.desk_io.proofs.HealthLaws.{goes_on}
use Rattle.desk_http.proofs.Links.{only_on}
use Rattle.desk_http.proofs.Streams.{passed_on, outside_stops, read_on, found_on, none_read, never, part_of_head, unfinished_head, nonempty, empty_is}
use Rattle.desk_http.proofs.reading.read_head.Goals as goal

pub returns-in-Never-clause-next : goal.returns-in-Never-clause-next
returns-in-Never-clause-next g c =
    let same = c.head_bytes.ensures.value ∙ ap (take head_limit) c.deref.ensures.value in
    (c.loop-head.invariant.read, never c.loop-head.bytes.items (subst NeverHasRequest same c.in-Never.ensures))

pub returns-in_err-read_more-clause-next : goal.returns-in_err-read_more-clause-next
returns-in_err-read_more-clause-next g c =
    let before = input_of (g.N.Link.seen c.args.link.now) in
    let now = input_of (g.N.Link.seen c.read_more.new.link) in
    let kept = c.args.bytes.now.items in
    let grown = c.read_more.new.bytes.items in
    let old = c.loop-head.bytes.items in
    let same = c.head_bytes.ensures.value ∙ ap (take head_limit) c.deref.ensures.value in
    let few : length old < head_limit = omega (arith, c.if-len-ge-HEAD_LIMIT.false, c.len.ensures, c.deref.ensures.len, ap length c.deref.ensures.value) in
    let part = unfinished_head old (subst HasNoRequest same c.in-More.ensures) few in
    passed_on c.from_residual.result c.in_err-read_more.field-0.0
    (λ head. Grows before now kept grown × IsRequestOf (take head_limit grown) c.front_of.new.spans head) (Stops before now kept grown)
    c.from_residual.ensures.0 c.from_residual.ensures.1 (outside_stops before _ now kept old grown _ c.loop-head.invariant.read part c.in_err-read_more.ensures.none c.in_err-read_more.ensures.outside)

pub returns-else-is_empty-clause-next : goal.returns-else-is_empty-clause-next
returns-else-is_empty-clause-next g c =
    let old = c.loop-head.bytes.items in
    let same = c.head_bytes.ensures.value ∙ ap (take head_limit) c.deref.ensures.value in
    let still = none_read _ _ old c.read_more.new.bytes.items c.in_ok-read_more.ensures.more (c.in_ok-read_more.ensures.count ∙ ap (λ n. length old + n) c.if-branch-eq0.true) in
    let few : length old < head_limit = omega (arith, c.if-len-ge-HEAD_LIMIT.false, c.len.ensures, c.deref.ensures.len, ap length c.deref.ensures.value) in
    let some = nonempty _ (sym c.if-is_empty.false ∙ c.is_empty.ensures ∙ ap (λ xs. length xs == 0) c.as_slice.ensures.value) in (
      read_on _ _ _ _ _ _ c.loop-head.invariant.read c.in_ok-read_more.ensures.more,
      (
        subst IsPart (sym still) (part_of_head old (subst HasNoRequest same c.in-More.ensures) few (λ e. some (still ∙ e))),
        found_on _ _ _ _ _ c.loop-head.invariant.read (c.in_ok-read_more.ensures.at_end c.if-branch-eq0.true),
      ),
    )

pub returns-then-is_empty-clause-next : goal.returns-then-is_empty-clause-next
returns-then-is_empty-clause-next g c =
    let none = empty_is _ (sym (c.is_empty.ensures ∙ ap (λ xs. length xs == 0) c.as_slice.ensures.value) ∙ c.if-is_empty.true) in (
      read_on _ _ _ _ _ _ c.loop-head.invariant.read c.in_ok-read_more.ensures.more,
      (none, found_on _ _ _ _ _ c.loop-head.invariant.read (c.in_ok-read_more.ensures.at_end c.if-branch-eq0.true)),
    )

pub loop-head-preserved : goal.loop-head-preserved
loop-head-preserved g c =
    record {
      read = read_on _ _ _ _ _ _ c.loop-head.invariant.read c.in_ok-read_more.ensures.more;
      same = only_on _ _ _ c.loop-head.invariant.same c.in_ok-read_more.ensures.same;
      on = goes_on _ _ _ c.loop-head.invariant.on c.in_ok-read_more.ensures.on;
      spans = search rules;
    }

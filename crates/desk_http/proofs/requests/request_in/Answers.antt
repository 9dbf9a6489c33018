use Rattle.std.proofs.Common.{rules, ◌≡◌, ◌≤◌, ◌+◌, ℕ, List, length, arith, subst, sym, true, false}
use Rattle.desk_http.specs.Reading.{input_of, Grows, Stops, IsUpTo}
use Rattle.desk_http.specs.Requests.{BeginsWithRequest}
use Rattle.desk_http.proofs.Streams.{passed_on, short_stops, read_on, found_on, memory_next, not_shorter, begins_on, part_of_body, whole_request}
use Rattle.desk_http.proofs.requests.request_in.Goals as goal

pub overflow_add-end : goal.overflow_add-end
overflow_add-end g c = omega (arith, c.in_ok-asked.ensures.next.short, c.in_ok-asked.ensures.next.few)

pub returns-in_err-read_up_to-clause-next : goal.returns-in_err-read_up_to-clause-next
returns-in_err-read_up_to-clause-next g c =
    let before = input_of (g.N.Link.seen c.args.link.now) in
    let now = input_of (g.N.Link.seen c.read_up_to.new.link) in
    let kept = c.args.bytes.now.items in
    let left = c.read_up_to.new.bytes.items in
    let b = c.in_ok-asked.ensures.next in
    passed_on c.from_residual-in_err-read_up_to.result c.in_err-read_up_to.field-0.0
    (λ wire. (bytes : List ℕ) × Grows before now kept bytes × BeginsWithRequest bytes wire left) (Stops before now kept left)
    c.from_residual-in_err-read_up_to.ensures.0 c.from_residual-in_err-read_up_to.ensures.1 (short_stops before _ now kept _ left c.in_ok-asked.start c.in_ok-asked.asked _ b.read b.begins b.within c.in_err-read_up_to.ensures.read c.in_err-read_up_to.ensures.next)

pub returns-in_err-finish-clause-next : goal.returns-in_err-finish-clause-next
returns-in_err-finish-clause-next g c =
    let before = input_of (g.N.Link.seen c.args.link.now) in
    let now = input_of (g.N.Link.seen c.read_up_to.new.link) in
    let kept = c.args.bytes.now.items in
    let left = c.finish.new.bytes.items in
    let read = read_on _ _ _ _ _ _ c.in_ok-asked.ensures.next.read c.in_ok-read_up_to.ensures.read in
    memory_next before now kept left c.from_residual-in_err-finish.result (subst (Grows before now kept) (sym {A = List ℕ} c.in_err-finish.ensures.err) read)
    c.from_residual-in_err-finish.ensures.0 c.from_residual-in_err-finish.ensures.1

pub returns-then-not-branch-clause-next : goal.returns-then-not-branch-clause-next
returns-then-not-branch-clause-next g c =
    let b = c.in_ok-asked.ensures.next in
    let u = c.in_ok-read_up_to.ensures in
    let s = c.read_up_to.new.bytes.items in
    let start = c.in_ok-asked.start in
    let a = c.in_ok-asked.asked in
    let not_all : c.in_ok-read_up_to.field-0 ≡ false = search rules in
    let end = subst (IsUpTo (start + a.length) (input_of (g.N.Link.seen c.begin.new.link)) (input_of (g.N.Link.seen c.read_up_to.new.link)) s) not_all u.next in
    let within : start ≤ length s = omega (arith, b.within, not_shorter _ _ _ s u.read) in
    let few = end.0 in
    (read_on _ _ _ _ _ _ b.read u.read, (part_of_body s start a (begins_on _ _ _ s start a u.read b.begins b.within) within few, found_on _ _ _ _ _ b.read end.1))

pub returns-clause-next : goal.returns-clause-next
returns-clause-next g c =
    let b = c.in_ok-asked.ensures.next in
    let u = c.in_ok-read_up_to.ensures in
    let s = c.read_up_to.new.bytes.items in
    let start = c.in_ok-asked.start in
    let a = c.in_ok-asked.asked in
    let all_there : c.in_ok-read_up_to.field-0 ≡ true = search rules in
    let all = subst (IsUpTo (start + a.length) (input_of (g.N.Link.seen c.begin.new.link)) (input_of (g.N.Link.seen c.read_up_to.new.link)) s) all_there u.next in
    let within : start ≤ length s = omega (arith, b.within, not_shorter _ _ _ s u.read) in (
      s,
      read_on _ _ _ _ _ _ b.read u.read,
      whole_request s start a c.in_ok-finish.field-0 c.finish.new.bytes.items (begins_on _ _ _ s start a u.read b.begins b.within) within all c.in_ok-finish.ensures.wire c.in_ok-finish.ensures.left,
    )

use Rattle.std.proofs.Common.{◌∙◌, arith, map, string_bytes, Ok}
use Rattle.commands.proofs.Reading.{between, fails_by, fails_next, handed_next, whole_next}
use Rattle.commands.specs.declared.fault.Fault.TheVariants.{OutOfMemory}
use Rattle.commands.proofs.sources.read_sources.Goals as goal

pub returns-in-Err : goal.returns-in-Err
returns-in-Err g c =
    let seen = g.S.Shelf.seen in
    let inv = c.loop-name.invariant in
    let within = c.loop-name-test.true in
    fails_next string_bytes (seen c.args.shelf.now) (seen c.loop-name.shelf) (seen c.read_source.new.shelf) c.args.names.now c.loop-name.name-index c.name-item.result c.as_str.result.now c.loop-name.texts c.in-Err.fault
    inv.sources inv.later inv.sound (omega (arith, within)) c.name-item.is c.as_str.ensures.value inv.read inv.handed c.in-Err.ensures.read

pub returns-in_err-push-in-Ok : goal.returns-in_err-push-in-Ok
returns-in_err-push-in-Ok g c =
    let seen = g.S.Shelf.seen in
    let inv = c.loop-name.invariant in
    let within = c.loop-name-test.true in
    let is = c.from_residual.ensures in
    fails_by (between (seen c.args.shelf.now) (seen c.read_source.new.shelf)) (map string_bytes c.args.names.now) OutOfMemory c.from_residual.result is.0 is.1
    (fails_next string_bytes (seen c.args.shelf.now) (seen c.loop-name.shelf) (seen c.read_source.new.shelf) c.args.names.now c.loop-name.name-index c.name-item.result c.as_str.result.now c.loop-name.texts OutOfMemory
    inv.sources inv.later inv.sound (omega (arith, within)) c.name-item.is c.as_str.ensures.value inv.read inv.handed (Ok c.in-Ok.text, c.in-Ok.ensures.read.1))

pub loop-name-preserved : goal.loop-name-preserved
loop-name-preserved g c =
    let seen = g.S.Shelf.seen in
    let inv = c.loop-name.invariant in
    let within = c.loop-name-test.true in
    let on = c.read_source.ensures.on in
    record {
      read = whole_next string_bytes (seen c.args.shelf.now).sources (seen c.loop-name.shelf).sources c.args.names.now c.loop-name.name-index c.name-item.result c.as_str.result.now c.in-Ok.text c.loop-name.texts c.push.new.self
          (omega (arith, within)) c.name-item.is c.as_str.ensures.value inv.sources inv.read c.in-Ok.ensures.read.0 c.in_ok-push-in-Ok.ensures.ok;
      handed = handed_next string_bytes (seen c.args.shelf.now).reads (seen c.loop-name.shelf).reads (seen c.read_source.new.shelf).reads c.args.names.now c.loop-name.name-index c.name-item.result c.as_str.result.now
          c.in-Ok.text c.loop-name.texts c.push.new.self (omega (arith, within)) c.name-item.is c.as_str.ensures.value inv.handed c.in-Ok.ensures.read.1 c.in_ok-push-in-Ok.ensures.ok;
      sources = on.sources ∙ inv.sources;
      later = (let one = inv.later in let two = on.health.later in omega (arith, one, two));
      sound = λ sound. (on.health.sound (inv.sound sound)).0;
    }

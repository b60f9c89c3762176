use Rattle.pf_expo.proofs.Files.{going_more, room_more}
use Rattle.pf_expo.proofs.exposition.read_exposition.Goals as goal

pub loop-text-preserved : goal.loop-text-preserved
loop-text-preserved c = record {
  going = going_more c.args.default_time c.args.bytes.now c.loop-text.rest.now c.in-Some.text.now c.in-Some.behind.now _ _ c.loop-text.line _
      c.loop-text.invariant.going c.in-Some.ensures.lines c.in_ok-add_line.ensures.adds c.saturating_add-line.ensures;
  room = room_more _ _ _ _ _ _ _ c.in_ok-add_line.ensures.adds c.loop-text.invariant.room c.in-Some.ensures.shorter;
  read = c.in_ok-add_line.ensures.read;
}

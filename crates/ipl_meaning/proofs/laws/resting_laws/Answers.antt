use Rattle.ipl_meaning.proofs.StoryLemmas.{quiet_images_are_parts, held_stands, rests_once, stories_agree, fewer_pages_rest, chips_rest_once, closed_rests, barriers_rest}
use Rattle.ipl_meaning.proofs.laws.resting_laws.Goals as goal

pub returns : goal.returns
returns c = record {
  parts = quiet_images_are_parts;
  held = held_stands;
  once = rests_once;
  agree = stories_agree;
  fewer = fewer_pages_rest;
  chips_once = chips_rest_once;
  closed = closed_rests;
  barriers = barriers_rest;
}

-- The test of the places reached is `obeys` by the law `obeys-is`.
use Rattle.record_obeys.proofs.PairPlaces.{obeys-is}
use Rattle.record_obeys.proofs.obeys.Goals as goal

pub returns : goal.returns
returns c =
    record {
      answer = obeys-is c.args.t c.requires c.ways-n.result c.power_codes-power.result c.follow.result
          c.ways-n.ensures.answer.0 c.power_codes-power.ensures.answer c.follow.ensures.answer;
    }

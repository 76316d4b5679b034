-- The groups are laid, then the words are counted part by part.
use Rattle.laws.proofs.All.{ap, ◌∙◌}
use Rattle.stream_pack.specs.Streams.{unpacked}
use Rattle.codec_verify.specs.Counting.{come_back}
use Rattle.stream_verify.proofs.count_stream.Goals as goal

pub returns : goal.returns
returns c =
    let a = c.args in
    record {
      answer = c.count_parts.ensures.answer
          ∙ ap (λ t. come_back t a.k (unpacked a.k.q a.count a.stream.now)) c.of-grouped.ensures.answer;
    }

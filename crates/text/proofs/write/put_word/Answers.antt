use Rattle.text.proofs.Putting.{put-front}
use Rattle.text.proofs.write.put_word.Goals as goal

pub returns : goal.returns
returns c = put-front c.requires c.copy_from_slice.ensures.after

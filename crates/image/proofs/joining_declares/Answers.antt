-- Which bytes are declared, and where the runs lie.
use Rattle.image.proofs.Joining.{joined_covers, joined_only, joined_apart}
use Rattle.image.proofs.joining_declares.Goals as goal

pub returns : goal.returns
returns c f t rs some = (joined_covers f t rs, joined_only f t rs, λ floor low apart. joined_apart floor f t rs low some apart)

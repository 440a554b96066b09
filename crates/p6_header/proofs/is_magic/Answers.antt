use Rattle.std.proofs.Common.{◌∙◌}
use Rattle.p6_header.proofs.HeaderLaws.{magic-starts}
use Rattle.p6_header.proofs.is_magic.Goals as goal

pub returns : goal.returns
returns c = c.starts_with.ensures.value ∙ magic-starts c.args.file.now

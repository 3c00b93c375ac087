-- What an explanation in numbers says.
use Rattle.reasons.specs.declared.Explanation as Numbers
use Rattle.reasons.specs.declared.Explanation.TheVariants as Variants
use Rattle.model.specs.Reasons.{Explanation, Refused, Accepted}

abbrev pub told : Numbers.Explanation → Explanation
told (Variants.Refused answer rule) = Refused answer rule
told (Variants.Accepted reason) = Accepted reason

use Rattle.std.proofs.Common.{◌∙◌, refl, length}
use Rattle.blend_rows.proofs.AxisLaws.{half_rows, measured-across}
use Rattle.blend_rows.proofs.half.along_column.Goals as goal

pub returns-clause-variations : goal.returns-clause-variations
returns-clause-variations c = c.measure.ensures.variations ∙ measured-across (half_rows c.args.around) (length c.args.variations.now) c.requires.room (λ x. x.variation) _ refl

pub returns-clause-estimates : goal.returns-clause-estimates
returns-clause-estimates c = c.measure.ensures.estimates ∙ measured-across (half_rows c.args.around) (length c.args.variations.now) c.requires.room (λ x. x.estimate) _ c.requires.same_length

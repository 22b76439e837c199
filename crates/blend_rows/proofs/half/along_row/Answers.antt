use Rattle.std.proofs.Common.{◌∙◌, refl, length}
use Rattle.blend_rows.proofs.AxisLaws.{half_rows, measured-along}
use Rattle.blend_rows.proofs.half.along_row.Goals as goal

pub returns-clause-variations : goal.returns-clause-variations
returns-clause-variations c = let a = c.args.around in c.measure.ensures.variations ∙ measured-along (half_rows a) (length c.args.variations.now) c.requires.room a.side a.bit (λ x. x.variation) _ refl

pub returns-clause-estimates : goal.returns-clause-estimates
returns-clause-estimates c = let a = c.args.around in c.measure.ensures.estimates ∙ measured-along (half_rows a) (length c.args.variations.now) c.requires.room a.side a.bit (λ x. x.estimate) _ c.requires.same_length

use Rattle.std.proofs.Common.{◌∙◌, ℕ, length}
use Rattle.blend.specs.declared.axis.Axis.{Axis}
use Rattle.blend_rows.specs.declared.around.Around.{Around}
use Rattle.blend_rows.specs.BlendIn.{row_axis_in, column_axis_in}
use Rattle.blend_rows.proofs.RoomLaws.{two-halves}
use Rattle.blend_rows.proofs.AxisLaws.{half_rows, axes, blended}
use Rattle.blend_rows.proofs.half.half_greens.Goals as goal

-- pixel k of the row, along the row and along the column
abbrev along : Around → ℕ → Axis
along a = row_axis_in a.places a.side a.own.now a.beside.now

abbrev across : Around → ℕ → Axis
across a = column_axis_in a.places a.own.now

pub half_blend-requires-clause-axes : goal.half_blend-requires-clause-axes
half_blend-requires-clause-axes c =
    let a = c.args.around in
    let n = length c.args.p.now in
    let y = two-halves n c.args.y.now c.requires.lengths.1 (λ k. (along a k).variation) (λ k. (across a k).variation) c.along_row.ensures.variations c.along_column.ensures.variations in
    let d = two-halves n c.args.d.now c.requires.lengths.2 (λ k. (along a k).estimate) (λ k. (across a k).estimate) c.along_row.ensures.estimates c.along_column.ensures.estimates in
    axes (half_rows a) a.side n y d

pub returns : goal.returns
returns c =
    let a = c.args.around in
    let n = length c.args.p.now in
    let y = two-halves n c.args.y.now c.requires.lengths.1 (λ k. (along a k).variation) (λ k. (across a k).variation) c.along_row.ensures.variations c.along_column.ensures.variations in
    let d = two-halves n c.args.d.now c.requires.lengths.2 (λ k. (along a k).estimate) (λ k. (across a k).estimate) c.along_row.ensures.estimates c.along_column.ensures.estimates in
    c.half_blend.ensures ∙ blended (half_rows a) a.side n y d

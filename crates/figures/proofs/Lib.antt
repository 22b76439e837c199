pub mod FigureTable
pub mod NotFiftyOne

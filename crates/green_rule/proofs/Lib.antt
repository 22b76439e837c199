pub mod GreensLaws

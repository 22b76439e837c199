pub mod Greens

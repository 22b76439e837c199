pub mod ExactTable

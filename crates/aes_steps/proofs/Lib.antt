-- Lemmas: arrays made by a function, tables, products by constants, and each step undone by its inverse.
pub mod FromFn
pub mod Table
pub mod Products
pub mod Tables
pub mod Sboxes
pub mod States
pub mod Columns
pub mod Undone

pub mod Laying
pub mod Tabling

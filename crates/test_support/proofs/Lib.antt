mod Over
mod Shapes
mod Ticks
